-- The texts of leaves.
use Rattle.std.specs.Prelude.{ℕ, List, [], ◌++◌, take, min, nat_lt, codes, decimal, Option, None, Some, if◌then◌else◌}
use Rattle.std.specs.List.{flat_map}
use Rattle.std.specs.Option.{option_map, option_and_then}
use Rattle.dump_io.specs.Atoms.{atom_text}
use Rattle.dump_io.specs.Numbers.{hex_byte}
use Rattle.binary_payloads.specs.declared.enc.Enc.{Enc}
use Rattle.term_forms.specs.Elements.{Element, Nil, Small, Atom, Pid, Port, Ref}
use Rattle.term_forms.specs.Forms.{HeapForm, Float, Long, Pid as PidForm, Port as PortForm, Ext, HeapBin, RefBin, SubBin}
use Rattle.binary_payloads.specs.ReadingPayloads.{payload_bytes}
use Rattle.heap_cells.specs.Cells.{Cell}
use Rattle.heap_cells.specs.HeapMap.{HeapMap, number_at}
use Rattle.binary_refs.specs.declared.entries.Entry.{Entry}
use Rattle.binary_refs.specs.Previews.{entry_at}
use Rattle.term_unfold.specs.Trees.{Value, Immediate, OfCell}

-- the first bytes of what the cell with a number refers to, at most 32, if they are known
abbrev pub preview_of : List Entry → ℕ → Option (List ℕ)
preview_of entries n = option_and_then (λ e. e.bytes) (entry_at entries n)

-- the first bytes of what the cell at an address refers to, if they are known
abbrev pub preview_at : List Cell → List Entry → ℕ → Option (List ℕ)
preview_at cells entries a = option_and_then (preview_of entries) (number_at cells a)

-- `#Port` and the port's text
abbrev pub port_text : List ℕ → List ℕ
port_text port = codes "#Port" ++ port

-- an element that is a leaf: the kept text, `[]` for the empty list, an atom bare or quoted
abbrev pub element_text : Element → List ℕ
element_text Nil = codes "[]"
element_text (Small integer) = integer
element_text (Atom name) = atom_text name
element_text (Pid pid) = pid
element_text (Port port) = port_text port
-- a reference is no leaf
element_text (Ref address) = []

-- `..` stands for the bytes after the first 32
abbrev pub dots : ℕ → List ℕ
dots size = if nat_lt 32 size then codes ".." else []

-- the first of this many bytes, in upper-case hex, or `?` if they are unknown
abbrev pub preview_text : ℕ → Option (List ℕ) → List ℕ
preview_text size None = codes "?"
preview_text size (Some bytes) = flat_map hex_byte bytes ++ dots size

-- a word, the size, `:`, the preview, `>`
abbrev pub sized_text : List ℕ → ℕ → Option (List ℕ) → List ℕ
sized_text word size preview = word ++ (decimal size ++ (codes ":" ++ (preview_text size preview ++ codes ">")))

-- the first bytes of a cell's own payload
abbrev pub own_preview : Enc → ℕ → List ℕ → Option (List ℕ)
own_preview enc size chars = option_map (λ bytes. take (min size 32) bytes) (payload_bytes enc chars)

-- a cell that has no children, with the preview of what it refers to
abbrev pub form_text : Enc → Option (List ℕ) → HeapForm → List ℕ
form_text enc preview (Float bytes) = bytes
form_text enc preview (Long number) = number
form_text enc preview (PidForm pid) = pid
form_text enc preview (PortForm port) = port_text port
form_text enc preview (Ext size chars) = sized_text (codes "#Ext<") size (own_preview enc size chars)
form_text enc preview (HeapBin size chars) = sized_text (codes "#Bin<") size (own_preview enc size chars)
form_text enc preview (RefBin address offset size) = sized_text (codes "#Bin<") size preview
form_text enc preview (SubBin address offset size) = sized_text (codes "#Bin<") size preview
-- forms of other kinds are no leaves
form_text enc preview form = []

-- the text of a leaf of a heap with these cells, from the encoding of payloads and the previews
abbrev pub leaf_text : Enc → List Cell → List Entry → Value → List ℕ
leaf_text enc cells previews (Immediate element) = element_text element
leaf_text enc cells previews (OfCell a form) = form_text enc (preview_at cells previews a) form

-- the text of each leaf of a heap, given the previews of its binaries
abbrev pub leaves : HeapMap → List Entry → Value → List ℕ
leaves heap previews = leaf_text heap.enc heap.cells previews
