use Rattle.std.proofs.Common.{length, take}
use Rattle.std.specs.List.{list_any}
use Rattle.cell_graphs.specs.Graphs.{places_at}
use Rattle.cell_graphs.specs.Rounds.{is_to}
use Rattle.cell_ways.specs.Inner.Search.{Gathers}
use Rattle.cell_ways.proofs.search.push_leads.Given as goal

-- the cells to which the first places lead were put behind the others
abbrev pub invariant-loop-place : goal.invariant-loop-place
invariant-loop-place g l =
    Gathers (length (g.G.CellGraph.graph l.graph)) l.initial.leads.items l.leads.items (λ n. list_any (is_to n) (take l.place (places_at (g.G.CellGraph.graph l.graph) l.cell)))
