use Rattle.std.proofs.Common.{◌≡◌, length}
use Rattle.cell_graphs.specs.Frontiers.{is_on}
use Rattle.cell_ways.specs.Inner.Sweeps.{AreSteps}
use Rattle.cell_ways.proofs.sweeps.sweep_depths.Given as goal

-- numbers are ones of steps
abbrev pub invariant-loop-turn : goal.invariant-loop-turn
invariant-loop-turn g l =
    let graph = g.G.CellGraph.graph l.graph in
    (length l.sweep.depths.items ≡ length graph) × AreSteps graph (λ n. is_on n l.roots) l.sweep.depths.items
