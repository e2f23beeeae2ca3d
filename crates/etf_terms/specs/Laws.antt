-- The laws of the grammar.
use Rattle.std.specs.Prelude.{◌≡◌, List, [], ◌++◌, ℕ, Option, None, Some}
use Rattle.etf_terms.specs.Place.{IsPlace}
use Rattle.etf_terms.specs.Reading.{external_text}
use Rattle.etf_terms.specs.Terms.{Term, IsTerm, IsExternal}
use Rattle.etf_terms.specs.Text.{text}
use Rattle.etf_terms.specs.Walks.{bad_place}

-- the same bytes spell at most one term
abbrev pub IsUnique : Type 0
IsUnique = (bytes : List ℕ) (one other : Term) → IsTerm bytes one → IsTerm bytes other → one ≡ other

-- no term's bytes are a proper prefix of another's
abbrev pub IsPrefixFree : Type 0
IsPrefixFree = (bytes behind : List ℕ) (one other : Term) → IsTerm bytes one → IsTerm (bytes ++ behind) other → behind ≡ []

-- the bytes are an external term, or aren't one and cease to begin one at this place
abbrev pub IsJudged : List ℕ → Option ℕ → Type 0
IsJudged bytes None = (term : Term) × IsExternal bytes term
IsJudged bytes (Some at) = ((term : Term) → IsExternal bytes term → ⊥) × IsPlace bytes at

-- what is computed for all bytes is so
abbrev pub JudgesAll : Type 0
JudgesAll = (bytes : List ℕ) → IsJudged bytes (bad_place bytes)

-- the text that is computed from an external term's bytes is that of the term
abbrev pub ReadsAll : Type 0
ReadsAll = (bytes : List ℕ) (term : Term) → IsExternal bytes term → external_text bytes ≡ text term
