-- Texts in one pool.
use Rattle.std.specs.Prelude.{ℕ, ◌≤◌, List, All, length, map, slice_range}
use Rattle.tuple_fronts.specs.declared.texts.Span.{Span}

-- the text that stands there
abbrev pub text_in : List ℕ → Span → List ℕ
text_in pool span = slice_range pool span.from span.upto

-- the texts that stand at these places of a pool
abbrev pub shown_texts : List ℕ → List Span → List (List ℕ)
shown_texts pool spans = map (text_in pool) spans

-- the place is within the pool
pub record IsWithin (size : ℕ) (span : Span) : Type 0 where
  pub ordered : span.from ≤ span.upto
  pub within : span.upto ≤ size

-- each of these places is
abbrev pub AreWithin : List ℕ → List Span → Type 0
AreWithin pool spans = All (IsWithin (length pool)) spans
