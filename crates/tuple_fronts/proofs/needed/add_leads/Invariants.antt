use Rattle.std.proofs.Common.{◌≡◌, ◌++◌, take}
use Rattle.std.specs.Prelude.{flat_map}
use Rattle.cell_graphs.specs.Graphs.{places_at}
use Rattle.tuple_fronts.specs.Tuples.{lead_tuple}
use Rattle.tuple_fronts.proofs.needed.add_leads.Given as goal

-- the tuples among those to which the places so far lead
abbrev pub invariant-loop-place : goal.invariant-loop-place
invariant-loop-place l = l.cells.items ≡ l.fn.cells.items ++ flat_map (lead_tuple l.skeleton) (take l.place (places_at l.skeleton.leads l.cell))
