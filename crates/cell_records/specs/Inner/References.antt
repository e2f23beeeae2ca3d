-- The references among the slots, and what is found of each.
use Rattle.std.specs.Prelude.{◌≡◌, ℕ, List, [], ◌∷◌, slice_get, slice_set, Option, None, Some, All, Contains}
use Rattle.cell_records.specs.declared.cells.Slot.{Slot}
use Rattle.cell_records.specs.declared.cells.Slot.TheVariants as slot
use Rattle.cell_records.specs.Resolving.{settled}

-- the address of a slot that is a reference, with the place of the slot
abbrev pub reference_of : Slot → ℕ → List (ℕ × ℕ)
reference_of (slot.Gone address) place = (address, place) ∷ []
reference_of other place = []

-- the addresses of the references among the slots, with their places
pub record AreReferences (slots : List Slot) (references : List (ℕ × ℕ)) : Type 0 where
  pub sound : All (λ (r : ℕ × ℕ). slice_get slots r.1 ≡ Some (slot.Gone r.0)) references
  pub complete : (i address : ℕ) → slice_get slots i ≡ Some (slot.Gone address) → Contains references (address, i)

-- a slot becomes the cell with the number that was found, if one was
abbrev pub found_at : List Slot → ℕ → Option ℕ → List Slot
found_at slots place None = slots
found_at slots place (Some number) = slice_set slots place (slot.Cell (record { 0 = number }))

-- a slot as it was, or resolved
abbrev pub IsHalfSettled : List ℕ → Slot → Slot → Type 0
IsHalfSettled addresses before after = settled addresses after ≡ settled addresses before
