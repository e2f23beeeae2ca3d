-- The place where bytes cease to begin an external term.
use Rattle.std.specs.Prelude.{◌≡◌, ℕ, ◌<◌, ◌≤◌, List, ◌++◌, length, take, Option, None, Some, Result, MatchResult}
use Rattle.std.specs.List.{AllByRecursion}
use Rattle.etf_terms.specs.Terms.{Term, IsExternal}

-- some bytes appended to these make an external term
pub record Begins (bytes : List ℕ) : Type 0 where
  pub behind : List ℕ
  pub are_bytes : AllByRecursion (λ b. b < 256) behind
  pub term : Term
  pub whole : IsExternal (bytes ++ behind) term

-- this many of the first bytes are the longest prefix that begins an external term
pub record IsPlace (bytes : List ℕ) (at : ℕ) : Type 0 where
  pub within : at ≤ length bytes
  pub begins : Begins (take at bytes)
  -- whatever follows
  pub longest : (n : ℕ) (behind : List ℕ) (term : Term) → n ≤ length bytes → IsExternal (take n bytes ++ behind) term → n ≤ at

-- a call fails with this place, or succeeds if there is none
abbrev pub Reports : {T : Type 0} → Option ℕ → Result T ℕ → Type 0
Reports place result = MatchResult result (λ _. place ≡ None) (λ at. place ≡ Some at)
