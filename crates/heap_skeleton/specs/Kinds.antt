-- The kinds of cells by their numbers.
use Rattle.std.specs.Prelude.{ℕ, List, Option, None, slice_index_or}
use Rattle.cell_records.specs.declared.cells.Kind.{Kind}

-- the kind of the cell with a number; a malformed cell has none
abbrev pub cell_kind : List (Option Kind) → ℕ → Option Kind
cell_kind kinds n = slice_index_or kinds n None
