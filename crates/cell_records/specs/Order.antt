-- Numbers in the order of their addresses. What has an address has a number, its place in a list of addresses.
use Rattle.std.specs.Prelude.{true, ◌≡◌, ℕ, ◌+◌, ◌*◌, ◌<◌, ◌==◌, Bool, not, List, length, take, slice_index_or, Option, All, Contains, position, ◌^◌}
use Rattle.std.specs.List.{list_any}
use Rattle.std.specs.List.Sorted.{IsNonDecreasingBy}

-- an address and a number as one number, which orders pairs
-- by address, and those with the same address by number
abbrev pub rank : ℕ → ℕ → ℕ
rank address number = address * 2 ^ 32 + number

-- the address with a number; past the last one, 0
abbrev pub address_in : List ℕ → ℕ → ℕ
address_in addresses n = slice_index_or addresses n 0

-- all numbers, by address and then by number
pub record IsOrder (addresses order : List ℕ) : Type 0 where
  pub within : All (λ n. n < length addresses) order
  pub complete : (n : ℕ) → n < length addresses → Contains order n
  pub sorted : IsNonDecreasingBy (λ n. rank (address_in addresses n) n) order

-- the first number with an address
abbrev pub number_with : List ℕ → ℕ → Option ℕ
number_with addresses address = position (λ a. a == address) addresses

-- a number comes before all others with its address
abbrev pub is_first : List ℕ → ℕ → Bool
is_first addresses n = not (list_any (λ a. a == address_in addresses n) (take n addresses))

-- each number comes before all others with its address
pub record AreAllFirst (addresses : List ℕ) : Type 0 where
  pub each : (n : ℕ) → n < length addresses → is_first addresses n ≡ true

-- an address and its number
pub record IsAddressPair (addresses : List ℕ) (pair : ℕ × ℕ) : Type 0 where
  pub within : pair.1 < length addresses
  pub address : address_in addresses pair.1 ≡ pair.0

-- the pairs of all addresses, one of each
pub record AreAddressPairs (addresses : List ℕ) (pairs : List (ℕ × ℕ)) : Type 0 where
  pub count : length pairs ≡ length addresses
  pub each : All (IsAddressPair addresses) pairs
  pub complete : (n : ℕ) → n < length addresses → Contains pairs (address_in addresses n, n)

-- these pairs are sorted by address and then by number
abbrev pub AreSorted : List (ℕ × ℕ) → Type 0
AreSorted pairs = IsNonDecreasingBy (λ pair. rank pair.0 pair.1) pairs

-- the pairs of all addresses, sorted, whose numbers have 32 bits
pub record AreRanked (addresses : List ℕ) (pairs : List (ℕ × ℕ)) : Type 0 where
  pub few : length addresses < 2 ^ 32
  pub pairs_are : AreAddressPairs addresses pairs
  pub sorted : AreSorted pairs

-- these pairs are those of some addresses, sorted
pub record IsRanking (pairs : List (ℕ × ℕ)) : Type 0 where
  pub addresses : List ℕ
  pub ranked : AreRanked addresses pairs

-- the number that a look-up of an address in the pairs finds, of whichever addresses they are the pairs
abbrev pub IsNumberIn : List (ℕ × ℕ) → ℕ → Option ℕ → Type 0
IsNumberIn pairs address found = (addresses : List ℕ) → AreRanked addresses pairs → found ≡ number_with addresses address

-- of whichever addresses these are the pairs, each number comes before all others with its address
abbrev pub AreOfFirsts : List (ℕ × ℕ) → Type 0
AreOfFirsts pairs = (addresses : List ℕ) → AreRanked addresses pairs → AreAllFirst addresses
