-- Places among numbers, and among pairs, in the order of their addresses.
use Rattle.std.specs.Prelude.{◌≡◌, ℕ, ◌-◌, ◌<◌, ◌≤◌, ◌==◌, ◌||◌, Bool, true, false, not, nat_lt, List, length, slice_index_or}
use Rattle.std.specs.List.Sorted.{IsPartitionPoint}
use Rattle.cell_records.specs.Order.{address_in}

-- the numbers with lower addresses are those before this place
abbrev pub IsPointOf : List ℕ → ℕ → List ℕ → ℕ → Type 0
IsPointOf addresses address order place =
    IsPartitionPoint (λ n. nat_lt (address_in addresses n) address ≡ true) (λ n. nat_lt (address_in addresses n) address ≡ false) order place

-- there is a cell with this number, and it has this address
pub record StandsAt (addresses : List ℕ) (number address : ℕ) : Type 0 where
  pub within : number < length addresses
  pub address_is : address_in addresses number ≡ address

-- the pairs before this place have an address lower than this one
abbrev pub AreBelow : List (ℕ × ℕ) → ℕ → ℕ → Type 0
AreBelow pairs address at = (i : ℕ) → i < at → (slice_index_or pairs i (0, 0)).0 < address

-- the pair at this place, if there is one, hasn't an address lower than this one
abbrev pub IsNotBelow : List (ℕ × ℕ) → ℕ → ℕ → Type 0
IsNotBelow pairs address at = at < length pairs → address ≤ (slice_index_or pairs at (0, 0)).0

-- between these places the pairs begin whose address isn't lower than this one
pub record IsRange (pairs : List (ℕ × ℕ)) (address : ℕ) (range : ℕ × ℕ) : Type 0 where
  pub order : range.0 ≤ range.1
  pub within : range.1 ≤ length pairs
  pub front : AreBelow pairs address range.0
  pub behind : IsNotBelow pairs address range.1

-- how many of the pairs have an address lower than this one: these come first
pub record IsFirstFrom (pairs : List (ℕ × ℕ)) (address at : ℕ) : Type 0 where
  pub within : at ≤ length pairs
  pub front : (i : ℕ) → i < at → (slice_index_or pairs i (0, 0)).0 < address
  pub behind : at < length pairs → address ≤ (slice_index_or pairs at (0, 0)).0

-- whether a pair has another address than the one before it, if there is one
abbrev pub begins_at : List (ℕ × ℕ) → ℕ → Bool
begins_at pairs place = (place == 0) || not ((slice_index_or pairs (place - 1) (0, 0)).0 == (slice_index_or pairs place (0, 0)).0)
