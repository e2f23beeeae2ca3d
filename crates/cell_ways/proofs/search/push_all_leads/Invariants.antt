use Rattle.std.proofs.Common.{length, take}
use Rattle.cell_ways.specs.Inner.Search.{is_led_by, Gathers}
use Rattle.cell_ways.proofs.search.push_all_leads.Given as goal

-- the cells to which the first of these lead were put behind the others
abbrev pub invariant-loop-cell : goal.invariant-loop-cell
invariant-loop-cell g l =
    Gathers (length (g.G.CellGraph.graph l.graph)) l.initial.leads.items l.leads.items (is_led_by (g.G.CellGraph.graph l.graph) (take l.cell-index l.cells))
