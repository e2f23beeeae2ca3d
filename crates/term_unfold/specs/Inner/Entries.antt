-- The cells that a walk is in, from the innermost outwards.
use Rattle.std.specs.Prelude.{◌≡◌, ℕ, ◌+◌, ◌<◌, Bool, true, false, if◌then◌else◌, List, [], ◌∷◌, length, map, drop, slice_index_or}
use Rattle.heap_cells.specs.Cells.{Cell}
use Rattle.heap_cells.specs.HeapMap.{HeapMap, IsBounded}
use Rattle.heap_cells.specs.Targets.{number}
use Rattle.binary_refs.specs.declared.entries.Entry.{Entry as Preview}
use Rattle.binary_refs.specs.Previews.{AreFor}
use Rattle.term_unfold.specs.Maps.{address_of}
use Rattle.term_unfold.specs.declared.node.NodeKind.{NodeKind}
use Rattle.term_unfold.specs.declared.node.NodeKind.TheVariants as kinds
use Rattle.term_unfold.specs.declared.path.Entry.{Entry}
use Rattle.term_unfold.specs.Rules.{is_on}

pub record Entered : Type 0 where
  -- the number of cells
  pub cells : ℕ
  -- for how many entries memory has been taken
  pub reserved : ℕ
  pub entries : List Entry

-- a walk over this many cells that is in none of them
abbrev pub new_path : ℕ → Entered
new_path cells = record { cells = cells; reserved = cells + 1; entries = [] }

-- this is the innermost cell
abbrev pub IsTop : List Entry → Entry → Type 0
IsTop entries e = entries ≡ e ∷ drop 1 entries

abbrev pub numbers_of : List Entry → List ℕ
numbers_of entries = map (λ (e : Entry). number e.cell) entries

-- the addresses of the ancestors
abbrev pub path_of : List Cell → List Entry → List ℕ
path_of heap entries = map (λ (e : Entry). address_of heap (number e.cell)) entries

abbrev pub altered : (Entry → Entry) → List Entry → List Entry
altered f [] = []
altered f (e ∷ es) = f e ∷ es

abbrev pub next_of : Bool → Entry → Entry
next_of came e = record { cell = e.cell; next = e.next + 1; kind = e.kind; came = came }

abbrev pub told_of : Bool → Entry → Entry
told_of came e = record { cell = e.cell; next = e.next; kind = e.kind; came = came }

-- the innermost cell goes on to its next child, after a text or after none
abbrev pub stepped : Bool → List Entry → List Entry
stepped came entries = altered (next_of came) entries

-- the innermost cell is after a text or after none
abbrev pub told : Bool → List Entry → List Entry
told came entries = altered (told_of came) entries

abbrev pub came_of : List Entry → Bool
came_of [] = false
came_of (e ∷ es) = e.came

-- an item of a hash map
abbrev pub is_item : NodeKind → Bool
is_item kinds.Inner = true
is_item kinds.Pair = true
is_item kind = false

-- all but the innermost map and those of its items that the walk is in
abbrev pub outside : List Entry → List Entry
outside [] = []
outside (e ∷ es) = if is_item e.kind then outside es else es

-- distinct numbers below a bound
abbrev pub IsLine : ℕ → List ℕ → Type 0
IsLine cells [] = Unit {0}
IsLine cells (n ∷ ns) = (n < cells) × (is_on n ns ≡ false) × IsLine cells ns

-- the marked cells are those of the entries, each once, and
-- the stack has room for one more entry than there are cells
pub record IsTied (marks : List Bool) (capacity : ℕ) (entries : List Entry) : Type 0 where
  pub room : capacity ≡ length marks + 1
  pub line : IsLine (length marks) (numbers_of entries)
  pub marked : (n : ℕ) → n < length marks → slice_index_or marks n false ≡ is_on n (numbers_of entries)

-- a path over this many cells serves the heap
pub record Serves (heap : HeapMap) (cells : ℕ) : Type 0 where
  pub size : cells ≡ length heap.cells
  pub bounded : IsBounded heap

-- a path that serves the heap is in no cell, and the previews are for the heap
abbrev pub IsIdle : HeapMap → List Preview → Entered → Type 0
IsIdle heap previews path =
    Serves heap path.cells × (path.entries ≡ []) × (path.reserved ≡ path.cells + 1) × AreFor heap.cells previews
