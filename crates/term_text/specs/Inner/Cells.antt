-- A cell by its number.
use Rattle.std.specs.Prelude.{ℕ, List, None, get_or}
use Rattle.heap_cells.specs.Cells.{Cell}

-- the cell with a number, which is below the count of cells
abbrev pub cell_at : List Cell → ℕ → Cell
cell_at cells n = get_or cells n (record { address = 0; form = None })
