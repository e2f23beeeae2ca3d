-- Where addresses and elements lead among the cells of a heap.
use Rattle.std.specs.Prelude.{◌≡◌, ℕ, ◌<◌, List, length, map, Option, None, Some, IsSome, All}
use Rattle.term_forms.specs.Elements.{Element, Ref}
use Rattle.term_forms.specs.Seen.{element}
use Rattle.heap_cells.specs.declared.cells.Seat.{Seat}
use Rattle.heap_cells.specs.declared.cells.Seat.TheVariants as seat
use Rattle.cell_records.specs.declared.cells.Slot.{Slot}
use Rattle.cell_records.specs.declared.cells.Slot.TheVariants as slot
use Rattle.heap_cells.specs.declared.cells.Kid.{Kid}
use Rattle.heap_cells.specs.declared.cells.Kid.TheVariants as kid
use Rattle.heap_cells.specs.Cells.{Cell}
use Rattle.heap_cells.specs.HeapMap.{number_at, form_at, elements_at}
pub use Rattle.cell_records.specs.Numbers.{number}

-- what an element leads to: nothing, since it is no reference;
-- the cell with a number; or an address that no cell has
pub data Target : Type 0 where
  Imm : Target
  At : ℕ → Target
  Gone : ℕ → Target

-- where a reference to an address leads, from the number of the cell with that address, if the map has one
abbrev pub target_at : ℕ → Option ℕ → Target
target_at address None = Gone address
target_at address (Some number) = At number

-- where an element leads: a reference to a cell or to a missing address, any other element nowhere
abbrev pub target : List Cell → Element → Target
target cells (Ref address) = target_at address (number_at cells address)
target cells element = Imm

-- where the elements of a cell's form lead, including the keys element of a flat map; a malformed cell has none
abbrev pub targets_at : List Cell → ℕ → List Target
targets_at cells number = map (target cells) (elements_at cells number)

-- where a slot leads; the span in an `Imm` plays no part
abbrev pub slot_target : Slot → Target
slot_target (slot.Imm span) = Imm
slot_target (slot.Cell ix) = At (number ix)
slot_target (slot.Gone address) = Gone address

-- where an element leads, as it is lent
abbrev pub kid_target : Kid → Target
kid_target (kid.Imm e) = Imm
kid_target (kid.Cell ix) = At (number ix)
kid_target (kid.Gone address) = Gone address

-- an immediate is kept as it is
abbrev pub KeepsElement : Kid → Element → Type 0
KeepsElement (kid.Imm found) e = element found ≡ e
KeepsElement reference e = Unit {0}

-- an address leads to no cell, to a malformed one, or to one with a form; the number is that of the cell
abbrev pub IsSeatOf : List Cell → ℕ → Seat → Type 0
IsSeatOf cells address seat.Missing = number_at cells address ≡ None
IsSeatOf cells address (seat.Malformed ix) =
    (number_at cells address ≡ Some (number ix)) × (form_at cells (number ix) ≡ None) × (number ix < length cells)
IsSeatOf cells address (seat.Cell ix) =
    (number_at cells address ≡ Some (number ix)) × IsSome (form_at cells (number ix)) × (number ix < length cells)

-- if the element leads to a cell, its number is below this bound
abbrev pub IsWithin : ℕ → Target → Type 0
IsWithin count (At number) = number < count
IsWithin count place = Unit {0}

-- each of these slots that leads to a cell leads to one whose number is below this bound
abbrev pub AreWithin : ℕ → List Slot → Type 0
AreWithin count slots = All (λ slot. IsWithin count (slot_target slot)) slots
