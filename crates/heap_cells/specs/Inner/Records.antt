-- What the parts of a heap and its slots stand for. The text is that of both bodies, one after the other.
use Rattle.std.specs.Prelude.{◌≡◌, ℕ, ◌+◌, ◌≤◌, Bool, true, false, if◌then◌else◌, List, map, length, slice_range, Option, None, Some, IsSome, nat_eq}
use Rattle.dump_io.specs.Limits.{usual}
use Rattle.std.specs.List.{IsDistinct}
use Rattle.binary_payloads.specs.declared.enc.Enc.{Enc}
use Rattle.term_forms.specs.Elements.{Element}
use Rattle.term_forms.specs.Reading.{whole_of}
use Rattle.term_forms.specs.ReadingForms.{form_of}
use Rattle.cell_records.specs.declared.cells.Kind.{Kind}
use Rattle.cell_records.specs.declared.cells.Kind.TheVariants as kind
use Rattle.cell_records.specs.declared.cells.Slot.{Slot}
use Rattle.cell_records.specs.declared.cells.Slot.TheVariants as slot
use Rattle.cell_records.specs.declared.cells.Span.{Span}
use Rattle.cell_records.specs.Order.{IsOrder}
use Rattle.cell_records.specs.Resolving.{settled}
use Rattle.heap_cells.specs.Cells.{Cell, addresses, weight_of}
use Rattle.heap_cells.specs.Inner.Gathering.{AllStandIn, cells_in}
use Rattle.heap_cells.specs.Inner.Parts.{IsPart}
use Rattle.heap_graph.specs.declared.elements.Elements.{Elements}
use Rattle.heap_graph.specs.declared.held.CellPart.{CellPart}
use Rattle.heap_graph.specs.Elements.{Found, slots_of, IsOfSlots}
use Rattle.heap_graph.specs.Held.{HeapLine, addresses_of, line_kind, parts_of, AreInLines}

-- the cell of a part
abbrev pub cell_in : List ℕ → Enc → CellPart → Cell
cell_in text enc p = record { address = p.address; form = form_of enc (slice_range text p.at (p.at + p.size)) }

abbrev pub cells_at : List ℕ → Enc → List CellPart → List Cell
cells_at text enc parts = map (cell_in text enc) parts

-- the element that a part of the text spells
abbrev pub element_at : List ℕ → Span → Option Element
element_at text span = whole_of (slice_range text span.at (span.at + span.len))

-- the part lies within one of the two bodies
abbrev pub IsSpan : List ℕ → ℕ → Span → Type 0
IsSpan text seam span = IsPart seam (length text) span.at (span.at + span.len)

-- the element that a slot spells
abbrev pub spelled_by : List ℕ → Slot → Option Element
spelled_by text (slot.Imm span) = element_at text span
spelled_by text (slot.Cell ix) = None
spelled_by text (slot.Gone address) = None

-- if a slot spells an element, it can be read
abbrev pub IsReadable : List ℕ → ℕ → Slot → Type 0
IsReadable text seam (slot.Imm span) = IsSpan text seam span × IsSome (element_at text span)
IsReadable text seam (slot.Cell ix) = Unit {0}
IsReadable text seam (slot.Gone address) = Unit {0}

-- if a slot spells an element, it is this one
abbrev pub Spells : List ℕ → ℕ → Slot → Element → Type 0
Spells text seam (slot.Imm span) e = IsSpan text seam span × (element_at text span ≡ Some e)
Spells text seam (slot.Cell ix) e = Unit {0}
Spells text seam (slot.Gone address) e = Unit {0}

-- whether a cell of this kind is a sub binary
abbrev pub is_sub : Option Kind → Bool
is_sub (Some kind.SubBin) = true
is_sub other = false

-- where the slots of the elements of a cell end: a sub binary has a slot for its address, which is no element
abbrev pub row_end : Option Kind → ℕ → ℕ → ℕ
row_end kind from upto = if is_sub kind then from else upto

-- the whole of a heap
pub record IsHeap (text : List ℕ) (seam : ℕ) (enc : Enc) (parts : List CellPart) (kinds : List (Option Kind)) (slots : List Slot) (order : List ℕ) (own : ℕ) : Type 0 where
  pub lines : List HeapLine
  pub fs : List Found
  pub beside : Elements
  pub of_slots : IsOfSlots beside
  pub parts_are : parts ≡ parts_of beside 0 lines
  pub kinds_are : kinds ≡ map line_kind lines
  pub elements : AreInLines lines fs
  pub slots_are : slots ≡ map (settled (addresses_of parts)) (slots_of fs)
  pub stand : AllStandIn text seam enc lines
  pub heap_size : seam ≤ usual.section
  pub size : length text ≤ seam + usual.section
  pub own_few : own ≤ length lines
  pub weight : weight_of (cells_in lines) ≤ usual.dense
  pub distinct : IsDistinct nat_eq (addresses (cells_in lines))
  pub order_is : IsOrder (addresses_of parts) order
