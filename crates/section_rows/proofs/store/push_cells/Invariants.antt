use Rattle.std.proofs.Common.{map, take}
use Rattle.section_rows.specs.Shown.{shown_cell}
use Rattle.section_rows.specs.Inner.Places.{Gained}
use Rattle.section_rows.proofs.store.push_cells.Given as goal

-- the cells so far were put behind
abbrev pub invariant-loop-cell : goal.invariant-loop-cell
invariant-loop-cell l =
    Gained l.base l.initial.places.items l.places.items l.initial.pool.items l.pool.items (map shown_cell (take l.cell-index l.cells))
