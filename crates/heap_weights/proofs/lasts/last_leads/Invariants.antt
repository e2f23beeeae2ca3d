use Rattle.heap_weights.specs.LastLeads.{TellsFirst}
use Rattle.heap_weights.proofs.lasts.last_leads.Given as goal

abbrev pub invariant-loop-cell : goal.invariant-loop-cell
invariant-loop-cell g l = TellsFirst (g.G.CellGraph.graph l.graph) l.cell l.lasts.items
