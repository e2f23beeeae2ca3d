-- Which cells refer to binaries outside of the heap: those of the forms RefBin and SubBin.
use Rattle.std.specs.Prelude.{ℕ, Bool, true, false, List, map, Option, Some, slice_index_or}
use Rattle.cell_records.specs.declared.cells.Kind.{Kind}
use Rattle.cell_records.specs.declared.cells.Kind.TheVariants as kind

-- whether a cell of this kind does; a malformed one has none
abbrev pub is_binary_kind : Option Kind → Bool
is_binary_kind (Some kind.RefBin) = true
is_binary_kind (Some kind.SubBin) = true
is_binary_kind other = false

-- whether each of the cells with these kinds does
abbrev pub binaries_among : List (Option Kind) → List Bool
binaries_among kinds = map is_binary_kind kinds

-- whether the cell with a number does
abbrev pub binary_at : List Bool → ℕ → Bool
binary_at binaries n = slice_index_or binaries n false
