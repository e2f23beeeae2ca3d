-- The cells of a heap: an address, and the form that the text behind it spells.
use Rattle.std.specs.Prelude.{ℕ, ◌+◌, List, [], length, Option, None, Some}
use Rattle.std.specs.List.{sum_by}
use Rattle.binary_payloads.specs.declared.enc.Enc.{Enc}
use Rattle.term_forms.specs.Elements.{Element}
use Rattle.term_forms.specs.Forms.{HeapForm, Cons, Tuple, Float, Long, Pid, Port, Ext, HeapBin, RefBin, SubBin, Flat, Hash, Node}
use Rattle.term_forms.specs.Places.{elements_of}
use Rattle.term_forms.specs.ReadingForms.{form_of}
use Rattle.cell_records.specs.declared.cells.Kind.{Kind}
use Rattle.cell_records.specs.declared.cells.Kind.TheVariants as kind

-- an address, and the form of its text; `None` if the text spells no form, so that the cell is malformed
pub record Cell : Type 0 where
  pub address : ℕ
  pub form : Option HeapForm

-- the cell of an address and the text after it, which is malformed if the text spells no form
abbrev pub spelled_cell : Enc → ℕ × List ℕ → Cell
spelled_cell enc led = record { address = led.0; form = form_of enc led.1 }

-- the elements of a cell's form, in order; a malformed cell has none
abbrev pub elements_in : Option HeapForm → List Element
elements_in None = []
elements_in (Some form) = elements_of form

-- which kind of form it is
abbrev pub kind_of : HeapForm → Kind
kind_of (Cons head tail) = kind.List
kind_of (Tuple elements) = kind.Tuple
kind_of (Float bytes) = kind.Float
kind_of (Long number) = kind.Long
kind_of (Pid pid) = kind.Pid
kind_of (Port port) = kind.Port
kind_of (Ext size chars) = kind.Ext
kind_of (HeapBin size chars) = kind.HeapBin
kind_of (RefBin address offset size) = kind.RefBin
kind_of (SubBin address offset size) = kind.SubBin
kind_of (Flat keys values) = kind.Flat
kind_of (Hash size children) = kind.Hash
kind_of (Node children) = kind.Node

-- the weight of a cell: 1 for itself, and 1 for each element of its form
abbrev pub cell_weight : Cell → ℕ
cell_weight cell = 1 + length (elements_in cell.form)

-- how many cells there are, and how many elements their forms have
abbrev pub weight_of : List Cell → ℕ
weight_of cells = sum_by cell_weight cells
