-- Laws of the definitions, each with its proof, for the proofs of callers.
use Rattle.std.proofs.Common.{◌≡◌, ℕ, ◌<◌, List, [], length, None, Some}
use Rattle.std.specs.List.{slice_get}
use Rattle.dump_io.specs.Laws.Lists.{slice_get-there}
use Rattle.section_rows.specs.Rows.{Row, row_at, cell_at}

-- the row at a place is there
pub row_at-there : (rows : List Row) (i : ℕ) → i < length rows → slice_get rows i ≡ Some (row_at rows i)
row_at-there rows i inside = slice_get-there rows i (record { at = 0; cells = [] }) inside

-- the cell at a place of a row is there
pub cell_at-there : (row : Row) (c : ℕ) → c < length row.cells → slice_get row.cells c ≡ Some (cell_at row c)
cell_at-there row c inside = slice_get-there row.cells c None inside
