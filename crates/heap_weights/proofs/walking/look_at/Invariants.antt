use Rattle.cell_graphs.specs.Frontiers.{LeadsBy}
use Rattle.heap_weights.specs.Labels.{Takes}
use Rattle.heap_weights.proofs.walking.look_at.Given as goal

-- the part has come to the cells to which the first places lead
abbrev pub invariant-loop-place : goal.invariant-loop-place
invariant-loop-place g l = Takes l.initial.labels l.labels (LeadsBy (g.G.CellGraph.graph l.graph) l.cell l.place)
