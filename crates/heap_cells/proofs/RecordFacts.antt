-- What slots stand for.
use Rattle.std.proofs.Common.{◌≡◌, ℕ, List, Option, None, Some, refl, ap}
use Rattle.std.specs.Prelude.{slice_get, is_some, IsSome, IfSome}
use Rattle.std.specs.Option.{option_map}
use Rattle.term_forms.specs.Elements.{Element}
use Rattle.term_forms.specs.Forms.{HeapForm}
use Rattle.cell_records.specs.declared.cells.Kind.{Kind}
use Rattle.cell_records.specs.declared.cells.Slot.{Slot}
use Rattle.cell_records.specs.declared.cells.Slot.TheVariants as slot
use Rattle.heap_cells.specs.declared.cells.Kid.{Kid}
use Rattle.heap_cells.specs.declared.cells.Kid.TheVariants as kid
use Rattle.heap_cells.specs.Cells.{Cell, kind_of}
use Rattle.heap_cells.specs.HeapMap.{elements_at}
use Rattle.heap_cells.specs.Targets.{target, slot_target, kid_target, KeepsElement}
use Rattle.heap_cells.specs.Inner.Records.{element_at, spelled_by, IsReadable, Spells}

-- a slot of a cell, with the element that it stands for
pub record IsKidOf (text : List ℕ) (seam : ℕ) (cells : List Cell) (i n : ℕ) (s : Slot) : Type 0 where
  pub element : Element
  pub stands : slice_get (elements_at cells i) n ≡ Some element
  pub spells : Spells text seam s element
  pub target_is : slot_target s ≡ target cells element

pub spells-readable : (text : List ℕ) (seam : ℕ) (s : Slot) (e : Element) → Spells text seam s e → IsReadable text seam s
spells-readable text seam (slot.Imm span) e spells = (spells.0, ap is_some spells.1)
spells-readable text seam (slot.Cell ix) e spells = tt
spells-readable text seam (slot.Gone address) e spells = tt

keeps-imm : (found : Option Element) (e : Element) (k : Kid) → found ≡ Some e → IfSome found (KeepsElement k) → KeepsElement k e
keeps-imm found e k is keeps = rw is at keeps

-- what is kept of the slot's spelling is the element
pub keeps-element : (text : List ℕ) (seam : ℕ) (s : Slot) (e : Element) (k : Kid) → Spells text seam s e → kid_target k ≡ slot_target s
    → IfSome (spelled_by text s) (KeepsElement k) → KeepsElement k e
keeps-element text seam (slot.Imm span) e k spells is keeps = keeps-imm (element_at text span) e k spells.1 keeps
keeps-element text seam (slot.Cell ix) e (kid.Imm found) spells is keeps = cc
keeps-element text seam (slot.Cell ix) e (kid.Cell to) spells is keeps = tt
keeps-element text seam (slot.Cell ix) e (kid.Gone address) spells is keeps = tt
keeps-element text seam (slot.Gone gone) e (kid.Imm found) spells is keeps = cc
keeps-element text seam (slot.Gone gone) e (kid.Cell to) spells is keeps = tt
keeps-element text seam (slot.Gone gone) e (kid.Gone address) spells is keeps = tt

-- a cell without a kind is malformed, and one with a kind isn't
pub no-kind : (form : Option HeapForm) → None ≡ option_map kind_of form → form ≡ None
no-kind None is = refl
no-kind (Some f) is = cc

pub some-kind : (form : Option HeapForm) (k : Kind) → Some k ≡ option_map kind_of form → IsSome form
some-kind None k is = cc
some-kind (Some f) k is = refl
