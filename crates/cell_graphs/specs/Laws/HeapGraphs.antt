-- The graph of a heap's cells, cell by cell.
use Rattle.std.proofs.Common.{◌≡◌, ℕ, zero, suc, ◌<◌, ◌⊎◌, List, [], ◌∷◌, length, map, Option, None, Some, refl, sym, ◌∙◌, ap, inl, inr, arith}
use Rattle.std.specs.Prelude.{slice_get, slice_index_or}
use Rattle.std.specs.Option.{option_and_then, option_map}
use Rattle.std.proofs.lemmas.List.{length-map}
use Rattle.std.proofs.lemmas.Option.{none-some, same_Some, slice_get-map}
use Rattle.std.proofs.lemmas.Simd.{map-map}
use Rattle.term_forms.specs.Elements.{Element, Ref}
use Rattle.term_forms.specs.Forms.{HeapForm, HeapBin, SubBin}
use Rattle.heap_cells.specs.Cells.{Cell, elements_in}
use Rattle.heap_cells.specs.HeapMap.{form_at, number_at}
use Rattle.heap_cells.specs.Laws.Cells.{number_at-within}
use Rattle.cell_records.specs.declared.cells.Slot.{Slot}
use Rattle.heap_cells.specs.Targets.{slot_target, target, target_at, targets_at}
use Rattle.cell_graphs.specs.Graphs.{LeadsWithin, bin_at, bin_in, cell_in, graph_of, places_at, places_of}

-- ---- the places of one cell

places-in : (all cells : List Cell) (m : ℕ) → slice_index_or (map (λ cell. places_of all cell.form) cells) m [] ≡ places_of all (form_at cells m)
places-in all [] zero = refl
places-in all [] (suc m) = refl
places-in all (cell ∷ cells) zero = refl
places-in all (cell ∷ cells) (suc m) = places-in all cells m

pub places-of : (cells : List Cell) (m : ℕ) → places_at (graph_of cells) m ≡ places_of cells (form_at cells m)
places-of cells m = places-in cells cells m

pub cells-of : (cells : List Cell) → length (graph_of cells) ≡ length cells
cells-of cells = length-map cells (λ cell. places_of cells cell.form)

-- ---- the places of a cell lead to cells of the heap

found-within : (cells : List Cell) (address n : ℕ) (o : Option ℕ) → number_at cells address ≡ o → cell_in (target_at address o) ≡ Some n → n < length cells
found-within cells address n None at is = absurd (none-some n is)
found-within cells address n (Some m) at is = number_at-within cells address n (at ∙ is)

target-within : (cells : List Cell) (e : Element) (n : ℕ) → cell_in (target cells e) ≡ Some n → n < length cells
target-within cells (Ref address) n is = found-within cells address n (number_at cells address) refl is
target-within cells e n is = absurd (none-some n is)

among-within : (cells : List Cell) (es : List Element) (k n : ℕ) → slice_get (map (λ e. cell_in (target cells e)) es) k ≡ Some (Some n) → n < length cells
among-within cells [] zero n is = absurd (none-some (Some n) is)
among-within cells [] (suc k) n is = absurd (none-some (Some n) is)
among-within cells (e ∷ es) zero n is = target-within cells e n (same_Some (cell_in (target cells e)) (Some n) is)
among-within cells (e ∷ es) (suc k) n is = among-within cells es k n is

bin-same : (m n : ℕ) (o : Option HeapForm) → bin_in m o ≡ Some n → m ≡ n
bin-same m n (Some (HeapBin size chars)) is = same_Some m n is
bin-same m n o is = absurd (none-some n is)

bin-within : (cells : List Cell) (address n : ℕ) (o : Option ℕ) → number_at cells address ≡ o → option_and_then (λ m. bin_in m (form_at cells m)) o ≡ Some n → n < length cells
bin-within cells address n None at is = absurd (none-some n is)
bin-within cells address n (Some m) at is = number_at-within cells address n (at ∙ ap Some (bin-same m n (form_at cells m) is))

form-within : (cells : List Cell) (o : Option HeapForm) (k n : ℕ) → slice_get (places_of cells o) k ≡ Some (Some n) → n < length cells
form-within cells (Some (SubBin address offset size)) zero n is =
    bin-within cells address n (number_at cells address) refl (same_Some (bin_at cells address) (Some n) is)
form-within cells (Some (SubBin address offset size)) (suc k) n is = absurd (none-some (Some n) is)
form-within cells o k n is = among-within cells (elements_in o) k n is

pub heap-within : (cells : List Cell) → LeadsWithin (graph_of cells)
heap-within cells m n (k, is) =
    let inside : n < length cells = form-within cells (form_at cells m) k n (ap (λ places. slice_get places k) (sym (places-of cells m)) ∙ is) in
    omega (arith, inside, cells-of cells)

-- ---- the places of a cell are what its slots say

no-past : (places : List (Option ℕ)) (k : ℕ) → k < length places → slice_get places k ≡ None → ⊥
no-past [] k within none = omega (arith, within)
no-past (place ∷ places) zero within none = let no : ⊥ = cc (none) in no
no-past (place ∷ places) (suc k) within none = no-past places k (omega (arith, within)) none

-- the form is that of a sub binary
abbrev IsSubBin : Option HeapForm → Type 0
IsSubBin o = (address : ℕ) × (offset : ℕ) × (size : ℕ) × (o ≡ Some (SubBin address offset size))

part-or-places : (cells : List Cell) (o : Option HeapForm) → IsSubBin o ⊎ (places_of cells o ≡ map cell_in (map (target cells) (elements_in o)))
part-or-places cells (Some (SubBin address offset size)) = inl (address, offset, size, refl)
part-or-places cells o = inr (sym (map-map cell_in (target cells) (elements_in o)))

no-slot : (slots : List Slot) (k : ℕ) (slot : Slot) → map slot_target slots ≡ [] → slice_get slots k ≡ Some slot → ⊥
no-slot [] zero slot none is = none-some slot is
no-slot [] (suc k) slot none is = none-some slot is
no-slot (first ∷ slots) k slot none is = let no : ⊥ = cc (none) in no

module _ (cells : List Cell) (m : ℕ) (slots : List Slot) (k : ℕ) (targets : map slot_target slots ≡ targets_at cells m) where
  abbrev form : Option HeapForm
  form = form_at cells m

  of-slots : places_of cells form ≡ map cell_in (map (target cells) (elements_in form)) → slice_get (places_at (graph_of cells) m) k ≡ option_map (λ s. cell_in (slot_target s)) (slice_get slots k)
  of-slots same =
      ap (λ places. slice_get places k) (places-of cells m ∙ same ∙ ap (map cell_in) (sym targets) ∙ map-map cell_in slot_target slots)
      ∙ slice_get-map (λ s. cell_in (slot_target s)) slots k

  -- a place for which there is a slot leads where that does
  pub lead-slot : (slot : Slot) → slice_get slots k ≡ Some slot → slice_get (places_at (graph_of cells) m) k ≡ Some (cell_in (slot_target slot))
  lead-slot slot is =
      elim (part-or-places cells form) [
        | inl (address, offset, size, part) ↦ absurd (no-slot slots k slot (targets ∙ ap (λ o. map (target cells) (elements_in o)) part) is)
        | inr same ↦ of-slots same ∙ ap (option_map (λ s. cell_in (slot_target s))) is
      ]

  first-place : (places : List (Option ℕ)) (place : Option ℕ) → places ≡ place ∷ [] → k < length places → slice_get places k ≡ Some place
  first-place places place is within =
      let one : length places ≡ 1 = ap length is in
      let here : k ≡ 0 = omega (arith, one, within) in
      ap (λ ps. slice_get ps k) is ∙ ap (slice_get (place ∷ [])) here

  -- a place for which there is no slot is that of a sub binary, and leads to the heap binary at its address
  pub lead-whole : (whole : Option ℕ) → slice_get slots k ≡ None → k < length (places_at (graph_of cells) m)
      → ((address offset size : ℕ) → form ≡ Some (SubBin address offset size) → whole ≡ bin_at cells address) → slice_get (places_at (graph_of cells) m) k ≡ Some whole
  lead-whole whole none within is =
      elim (part-or-places cells form) [
        | inl (address, offset, size, part) ↦
            first-place (places_at (graph_of cells) m) whole
            (places-of cells m ∙ ap (places_of cells) part ∙ ap (λ p. p ∷ []) (sym (is address offset size part)))
            within
        | inr same ↦ absurd (no-past (places_at (graph_of cells) m) k within (of-slots same ∙ ap (option_map (λ s. cell_in (slot_target s))) none))
      ]
