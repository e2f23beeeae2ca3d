-- Resolving references to the cells that they lead to.
use Rattle.std.specs.Prelude.{◌≡◌, ℕ, List, map}
use Rattle.std.specs.Option.{option_map_or}
use Rattle.cell_records.specs.declared.cells.Slot.{Slot}
use Rattle.cell_records.specs.declared.cells.Slot.TheVariants as slot
use Rattle.cell_records.specs.Order.{number_with, AreRanked}

-- a slot whose reference leads to the first of the cells with its address, if there is one
abbrev pub settled : List ℕ → Slot → Slot
settled addresses (slot.Gone address) = option_map_or (λ n. slot.Cell (record { 0 = n })) (number_with addresses address) (slot.Gone address)
settled addresses other = other

-- each slot is settled, of whichever addresses these are the pairs
abbrev pub AreSettled : List (ℕ × ℕ) → List Slot → List Slot → Type 0
AreSettled pairs before after = (addresses : List ℕ) → AreRanked addresses pairs → after ≡ map (settled addresses) before
