-- The previews of a heap's references to binaries: the first bytes of the
-- range to which a cell refers, at most 32, or that they are unknown.
use Rattle.std.specs.Prelude.{◌≡◌, ℕ, zero, suc, ◌+◌, ◌==◌, ◌≤◌, List, [], ◌++◌, length, take, drop, find, nat_le, is_some, Option, None, Some, if◌then◌else◌}
use Rattle.std.specs.Option.{option_map, option_and_then, option_to_list}
use Rattle.dump_io.specs.Dumps.{Now, IfTold}
use Rattle.dump_sections.specs.Index.{Contents}
use Rattle.binary_payloads.specs.declared.enc.Enc.{Enc}
use Rattle.term_forms.specs.Forms.{HeapForm, HeapBin, RefBin, SubBin}
use Rattle.binary_payloads.specs.ReadingPayloads.{payload_bytes}
use Rattle.heap_cells.specs.Cells.{Cell}
use Rattle.heap_cells.specs.HeapMap.{HeapMap, number_at, form_at}
use Rattle.binary_refs.specs.Ranges.{count_shown, in_dump}
use Rattle.binary_refs.specs.declared.entries.Entry.{Entry}
use Rattle.binary_refs.specs.declared.entries.Preview.{Preview}
use Rattle.binary_refs.specs.declared.entries.Preview.TheVariants.{Bytes, Unknown}

-- the length and the characters of a heap binary
abbrev pub own_binary : HeapForm → Option (ℕ × List ℕ)
own_binary (HeapBin size chars) = Some (size, chars)
own_binary form = None

-- the length and the characters of the heap binary with this address, if the heap has one there
abbrev pub heap_binary : List Cell → ℕ → Option (ℕ × List ℕ)
heap_binary cells address = option_and_then own_binary (option_and_then (form_at cells) (number_at cells address))

-- what is shown of a range of a heap binary, if it lies within its length
abbrev pub in_heap : Enc → ℕ → ℕ → ℕ × List ℕ → Option (List ℕ)
in_heap enc offset size binary =
    if nat_le (offset + size) binary.0
    then option_map (λ bytes. take (count_shown size) (drop offset bytes)) (payload_bytes enc binary.1) else None

-- a sub binary is shown from the heap binary if there is one, and otherwise from the dump
abbrev pub in_part : Option (ℕ × List ℕ) → List ℕ → Contents → Enc → ℕ → ℕ → ℕ → Option (List ℕ)
in_part None dump index enc address offset size = in_dump dump index enc address offset size
in_part (Some binary) dump index enc address offset size = in_heap enc offset size binary

-- an entry: the number of a cell, the size that it states,
-- and the bytes shown of it; `None` if they are unknown
abbrev pub entry : ℕ → ℕ → Option (List ℕ) → Entry
entry cell size bytes = record { cell = cell; size = size; bytes = bytes }

-- the entry of a cell with this number and form; references to binaries and sub binaries have one
abbrev pub preview_entry : List ℕ → Contents → Enc → List Cell → ℕ → HeapForm → Option Entry
preview_entry dump index enc cells n (RefBin address offset size) = Some (entry n size (in_dump dump index enc address offset size))
preview_entry dump index enc cells n (SubBin address offset size) =
    Some (entry n size (in_part (heap_binary cells address) dump index enc address offset size))
preview_entry dump index enc cells n form = None

-- what the first n cells give, by their numbers and forms, in order
abbrev pub by_number : {X : Type 0} → (ℕ → HeapForm → Option X) → List Cell → ℕ → List X
by_number f cells zero = []
by_number f cells (suc n) = by_number f cells n ++ option_to_list (option_and_then (f n) (form_at cells n))

-- the entry of the cell with this number, if it refers to a binary
abbrev pub preview_at : List ℕ → Contents → HeapMap → ℕ → Option Entry
preview_at dump index heap n = option_and_then (preview_entry dump index heap.enc heap.cells n) (form_at heap.cells n)

-- the previews of a heap's cells over the bytes of a dump
abbrev pub previews_of : List ℕ → Contents → Enc → List Cell → List Entry
previews_of dump index enc cells = by_number (preview_entry dump index enc cells) cells (length cells)

-- these are the previews of a heap, if the device tells the bytes of what is open
abbrev pub ArePreviewsOf : Now → Contents → HeapMap → List Entry → Type 0
ArePreviewsOf now index heap entries = IfTold now (λ dump. entries ≡ previews_of dump index heap.enc heap.cells)

-- the number of a cell that refers to a binary, and the size that it states
abbrev pub stated : ℕ → HeapForm → Option (ℕ × ℕ)
stated n (RefBin address offset size) = Some (n, size)
stated n (SubBin address offset size) = Some (n, size)
stated n form = None

-- the number of a cell, if it refers to a binary, and the size that it states
abbrev pub stated_at : List Cell → ℕ → Option (ℕ × ℕ)
stated_at cells n = option_and_then (stated n) (form_at cells n)

-- the numbers of all cells of a heap that refer to a binary, and the sizes that they state
abbrev pub binaries : List Cell → List (ℕ × ℕ)
binaries cells = by_number stated cells (length cells)

-- the number and the stated size of an entry
abbrev pub stating : Entry → ℕ × ℕ
stating e = (e.cell, e.size)

-- the entry of the cell with a number
abbrev pub entry_at : List Entry → ℕ → Option Entry
entry_at entries n = find (λ e. e.cell == n) entries

-- each cell that refers to a binary has an entry, and no other cell has one
abbrev pub AreFor : List Cell → List Entry → Type 0
AreFor cells entries = (n : ℕ) → is_some (entry_at entries n) ≡ is_some (stated_at cells n)

-- the entry that a preview stands for
abbrev pub told_entry : ℕ → Preview → Entry
told_entry cell (Bytes bytes size) = entry cell size (Some bytes.now)
told_entry cell (Unknown size) = entry cell size None

-- a preview has at most 32 bytes
abbrev pub IsFew : Preview → Type 0
IsFew (Bytes bytes size) = length bytes.now ≤ 32
IsFew (Unknown size) = Unit {0}
