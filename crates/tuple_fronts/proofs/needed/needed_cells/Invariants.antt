use Rattle.std.proofs.Common.{◌≡◌, take}
use Rattle.tuple_fronts.specs.Tuples.{needed}
use Rattle.tuple_fronts.proofs.needed.needed_cells.Given as goal

-- what the cells so far need
abbrev pub invariant-loop-cell : goal.invariant-loop-cell
invariant-loop-cell l = l.cells.items ≡ needed l.skeleton (take l.cell-index l.subjects)
