-- What is met on the way from number to number.
use Rattle.std.specs.Prelude.{◌≡◌, ℕ, Bool, false, nat_eq, List, [], ◌∷◌, Option, Some}
use Rattle.std.specs.List.{list_any}

-- a number meets what holds of it, and what its next number meets
pub data Meets (next : ℕ → Option ℕ) (Last : ℕ → Type 0) : ℕ → Type 0 where
  here : (r : ℕ) → Last r → Meets next Last r
  later : (r s : ℕ) → next r ≡ Some s → Meets next Last s → Meets next Last r

-- one number comes to another: its next is it, or its next comes to it
abbrev pub ComesBy : (ℕ → Option ℕ) → ℕ → ℕ → Type 0
ComesBy next r v = Meets next (λ u. next u ≡ Some v) r

-- whether a number is one of these
abbrev pub is_on : ℕ → List ℕ → Bool
is_on v vs = list_any (nat_eq v) vs

-- each number leads to the next one, and something holds of the last
abbrev pub IsChain : (ℕ → Option ℕ) → (ℕ → Type 0) → List ℕ → Type 0
IsChain next Last [] = Unit {0}
IsChain next Last (r ∷ []) = Last r
IsChain next Last (r ∷ s ∷ rest) = (next r ≡ Some s) × IsChain next Last (s ∷ rest)

-- each number stands there once
abbrev pub IsOnce : List ℕ → Type 0
IsOnce [] = Unit {0}
IsOnce (r ∷ rest) = (is_on r rest ≡ false) × IsOnce rest
