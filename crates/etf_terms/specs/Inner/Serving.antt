-- A stack that serves a term.
use Rattle.std.specs.Prelude.{◌≡◌, ℕ, suc, List}
use Rattle.etf_terms.specs.Terms.{Term, IsTerm}
use Rattle.etf_terms.specs.Depth.{depth}

-- there is room for all heads that are open at once while the term with these bytes is written
abbrev pub IsExact : List ℕ → ℕ → Type 0
IsExact bytes room = (term : Term) → IsTerm bytes term → room ≡ suc (depth term)

-- the bytes are those of a term, and there is this room for it
pub record Serves (bytes : List ℕ) (room : ℕ) : Type 0 where
  pub some : (term : Term) × IsTerm bytes term
  pub exact : IsExact bytes room
