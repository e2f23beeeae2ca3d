use Rattle.std.proofs.Common.{take}
use Rattle.heap_weights.specs.Inner.Labels.{AreHeldBy, IsRested}
use Rattle.heap_weights.proofs.weights.walk_all.Given as goal

-- the first parts have walked
abbrev pub invariant-loop-part : goal.invariant-loop-part
invariant-loop-part g l =
    let graph = g.G.CellGraph.graph l.graph in
    IsRested graph l.part l.labels × AreHeldBy graph l.labels (take l.part l.roots)
