use Rattle.std.proofs.Common.{◌<◌, false, length}
use Rattle.cell_ways.specs.Inner.Sweeps.{IsPassed, Sweeps}
use Rattle.cell_ways.proofs.sweeps.Sweep.go_over.Given as goal

-- what the cells lead to, to which the first steps came
abbrev pub invariant-loop-step : goal.invariant-loop-step
invariant-loop-step g l =
    let graph = g.G.CellGraph.graph l.graph in
    Sweeps graph (λ m. (m < length graph) × IsPassed l.up (length graph) l.step m) (record l.initial.self { changed = false }) l.self
