-- What is shown of the cells that refer to binaries.
use Rattle.std.proofs.Common.{◌≡◌, ℕ, ◌<◌, eqb, List, length, sym, ap}
use Rattle.std.specs.Option.{option_and_then}
use Rattle.std.specs.List.{IsDistinct}
use Rattle.heap_cells.specs.Cells.{Cell, addresses}
use Rattle.term_unfold.specs.Maps.{address_of}
use Rattle.binary_refs.specs.declared.entries.Entry.{Entry}
use Rattle.term_unfold.specs.Leaves.{preview_of, preview_at}
use Rattle.term_unfold.proofs.Opens.{number-is}

-- a cell's preview is the one of its address
pub preview-is : (cells : List Cell) (entries : List Entry) (n : ℕ) → IsDistinct eqb (addresses cells) → n < length cells → preview_of entries n ≡ preview_at cells entries (address_of cells n)
preview-is cells entries n distinct within = ap (option_and_then (preview_of entries)) (sym (number-is cells n distinct within))
