-- Pairs of an address and a number, as they are kept.
use Rattle.std.specs.Prelude.{ℕ, ◌+◌, ◌-◌, ◌/◌, ◌%◌, ◌<◌, ◌≤◌, List, map, All, ◌^◌}
use Rattle.cell_records.specs.declared.ranks.Kept.{Kept}
use Rattle.cell_records.specs.declared.ranks.Kept.TheVariants.{Narrow, Wide}

-- how far above a base an address may lie, if this many of 64 bits are those of its number
abbrev pub reach : ℕ → ℕ
reach bits = (2 ^ 64 - 1) / 2 ^ bits

-- this many of 64 bits may be those of a number, and the others those of an address above the base
pub record IsSplit (base bits : ℕ) : Type 0 where
  pub few : bits ≤ 32
  pub within : base + reach bits < 2 ^ 64

-- the pair that a 64-bit number stands for: the address above a base, and then this many bits of the number
abbrev pub pair_at : ℕ → ℕ → ℕ → ℕ × ℕ
pair_at base bits rank = (base + rank / 2 ^ bits, rank % 2 ^ bits)

abbrev pub pairs_in : ℕ → ℕ → Kept → List (ℕ × ℕ)
pairs_in base bits (Narrow ranks) = map (pair_at base bits) ranks.items
pairs_in base bits (Wide pairs) = pairs.items

-- each number fits into 32 bits
abbrev pub AreNumbered : Kept → Type 0
AreNumbered (Narrow ranks) = Unit {0}
AreNumbered (Wide pairs) = All (λ (pair : ℕ × ℕ). pair.1 < 2 ^ 32) pairs.items
