-- A term that was read.
use Rattle.std.specs.Prelude.{◌≡◌, ℕ, suc, List}
use Rattle.etf_terms.specs.Depth.{depth}
use Rattle.etf_terms.specs.Terms.{Term, IsExternal}

-- a term that was read: its bytes, and how many entries of a stack were reserved for writing it
pub record Held : Type 0 where
  pub bytes : List ℕ
  pub room : ℕ

-- there are as many entries as writing the term with these bytes needs: one more than the term is deep
abbrev pub IsRoomFor : List ℕ → ℕ → Type 0
IsRoomFor bytes room = (term : Term) → IsExternal bytes term → room ≡ suc (depth term)
