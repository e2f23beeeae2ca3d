-- Which numbers come before all others with their address.
use Rattle.std.specs.Prelude.{◌≡◌, ℕ, ◌+◌, ◌<◌, Bool, false, List, length, slice_index_or}
use Rattle.cell_records.specs.Order.{is_first}

-- which numbers come before all others with their address
pub record AreFirsts (addresses : List ℕ) (firsts : List Bool) : Type 0 where
  pub count : length firsts ≡ length addresses
  pub each : (n : ℕ) → n < length addresses → slice_index_or firsts n false ≡ is_first addresses n

-- no two adjacent pairs have the same address
abbrev pub AreApart : List (ℕ × ℕ) → Type 0
AreApart pairs = (i : ℕ) → i + 1 < length pairs → (slice_index_or pairs i (0, 0)).0 ≡ (slice_index_or pairs (i + 1) (0, 0)).0 → ⊥
