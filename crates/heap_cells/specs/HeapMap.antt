-- The map of a heap, from addresses to forms, as the list of its cells by number.
use Rattle.std.specs.Prelude.{ℕ, ◌≤◌, ◌==◌, nat_eq, List, length, position, slice_get, Option}
use Rattle.dump_io.specs.Limits.{usual}
use Rattle.std.specs.Option.{option_map, option_and_then}
use Rattle.std.specs.List.{IsDistinct}
use Rattle.binary_payloads.specs.declared.enc.Enc.{Enc}
use Rattle.term_forms.specs.Elements.{Element}
use Rattle.term_forms.specs.Forms.{HeapForm, IsForm}
use Rattle.heap_cells.specs.Cells.{Cell, elements_in, addresses, weight_of}

-- the cells, numbered from 0; how many of them come from the
-- heap's own body; and how payloads are written
pub record HeapMap : Type 0 where
  pub cells : List Cell
  pub own : ℕ
  pub enc : Enc

-- no address occurs twice, and there are at most 100,000,000 cells and elements
pub record IsBounded (heap : HeapMap) : Type 0 where
  pub distinct : IsDistinct nat_eq (addresses heap.cells)
  pub weight : weight_of heap.cells ≤ usual.dense
  pub own : heap.own ≤ length heap.cells

-- the number of the cell that has the address
abbrev pub number_at : List Cell → ℕ → Option ℕ
number_at cells address = position (λ cell. cell.address == address) cells

-- the address of the cell with a number
abbrev pub address_at : List Cell → ℕ → Option ℕ
address_at cells number = option_map (λ cell. cell.address) (slice_get cells number)

-- the form of the cell with a number; `None` if that cell is malformed
abbrev pub form_at : List Cell → ℕ → Option HeapForm
form_at cells number = option_and_then (λ cell. cell.form) (slice_get cells number)

-- the elements of that form
abbrev pub elements_at : List Cell → ℕ → List Element
elements_at cells number = elements_in (form_at cells number)

-- the element at a place of that form
abbrev pub nth_element : List Cell → ℕ → ℕ → Option Element
nth_element cells number place = slice_get (elements_at cells number) place

-- some text spells the form
abbrev pub IsSpelled : Enc → HeapForm → Type 0
IsSpelled enc form = (text : List ℕ) × IsForm enc text form
