-- The numbers of cells.
use Rattle.std.specs.Prelude.{ℕ}
use Rattle.cell_records.specs.declared.cells.CellIx.{CellIx}

-- the number of a cell
abbrev pub number : CellIx → ℕ
number ix = ix.0
