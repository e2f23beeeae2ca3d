-- What is shown of a cell, and where its entry stands.
use Rattle.std.specs.Prelude.{◌≡◌, ℕ, List, Option, nat_lt, true, false}
use Rattle.std.specs.Option.{option_map}
use Rattle.std.specs.List.Sorted.{IsPartitionPoint}
use Rattle.dump_sections.specs.Index.{Contents}
use Rattle.heap_cells.specs.HeapMap.{HeapMap}
use Rattle.term_forms.specs.Forms.{HeapForm}
use Rattle.binary_refs.specs.declared.entries.Entry.{Entry}
use Rattle.binary_refs.specs.declared.ranges.Range.{Range}
use Rattle.binary_refs.specs.Previews.{heap_binary, in_part, preview_entry, stating}

-- what is shown of a range: from the heap binary if there is one, and otherwise from the dump
abbrev pub part_shown : List ℕ → Contents → HeapMap → Range → Option (List ℕ)
part_shown dump index heap range =
    in_part (heap_binary heap.cells range.address) dump index heap.enc range.address range.offset range.size

-- the entry of the cell of a heap with this number and form
abbrev pub preview_of : List ℕ → Contents → HeapMap → ℕ → HeapForm → Option Entry
preview_of dump index heap n form = preview_entry dump index heap.enc heap.cells n form

-- an entry has this number of a cell and this size; there is none if nothing is stated
abbrev pub IsEntryOf : Option (ℕ × ℕ) → Option Entry → Type 0
IsEntryOf stated entry = option_map stating entry ≡ stated

-- the entries of cells with lower numbers are those before this place
abbrev pub IsPointOf : List Entry → ℕ → ℕ → Type 0
IsPointOf entries n place = IsPartitionPoint (λ e. nat_lt e.cell n ≡ true) (λ e. nat_lt e.cell n ≡ false) entries place
