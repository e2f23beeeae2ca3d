use Rattle.cell_graphs.specs.Frontiers.{work}
use Rattle.heap_weights.specs.Labels.{frontier}
use Rattle.heap_weights.proofs.Going.{Goes}
use Rattle.heap_weights.proofs.walking.spread.Given as goal

abbrev pub invariant-loop-cell : goal.invariant-loop-cell
invariant-loop-cell g l = Goes (g.G.CellGraph.graph l.graph) l.initial.labels l.labels

abbrev pub decreases-loop-cell : goal.decreases-loop-cell
decreases-loop-cell g l = work (frontier l.labels)
