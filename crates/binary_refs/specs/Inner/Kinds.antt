-- The kinds of cells that are binaries or refer to one.
use Rattle.std.specs.Prelude.{Bool, true, false, Option, Some}
use Rattle.cell_records.specs.declared.cells.Kind.{Kind}
use Rattle.cell_records.specs.declared.cells.Kind.TheVariants.{HeapBin, RefBin, SubBin}

-- a cell of this kind refers to a binary; a malformed one has no kind
abbrev pub refers : Option Kind → Bool
refers (Some RefBin) = true
refers (Some SubBin) = true
refers kind = false

-- a cell of this kind is a heap binary
abbrev pub is_own : Option Kind → Bool
is_own (Some HeapBin) = true
is_own kind = false
