use Rattle.std.proofs.Common.{take}
use Rattle.std.specs.List.{list_any}
use Rattle.cell_graphs.specs.Graphs.{places_at}
use Rattle.cell_graphs.specs.Rounds.{is_to}
use Rattle.cell_ways.specs.Inner.Sweeps.{Lowers}
use Rattle.cell_ways.proofs.sweeps.Sweep.lower_leads.Given as goal

-- the cells to which the first places lead
abbrev pub invariant-loop-place : goal.invariant-loop-place
invariant-loop-place g l = Lowers l.initial.self l.self l.depth (λ n. list_any (is_to n) (take l.place (places_at (g.G.CellGraph.graph l.graph) l.cell)))
