-- Targets in one pool.
use Rattle.std.specs.Prelude.{◌≡◌, ℕ, ◌+◌, ◌≤◌, List, All, Option, Some, length, map, option_map, slice_range}
use Rattle.wait_requests.specs.declared.targets.Span.{Span}

-- the text that stands there
abbrev pub text_in : List ℕ → Span → List ℕ
text_in texts span = slice_range texts span.from span.upto

-- the target that stands there, if there is one
abbrev pub target_in : List ℕ → Option Span → Option (List ℕ)
target_in texts span = option_map (text_in texts) span

-- the targets that stand at these places of a pool
abbrev pub shown_targets : List ℕ → List (Option Span) → List (Option (List ℕ))
shown_targets texts spans = map (target_in texts) spans

-- the place, if there is one, is within a pool of this size
pub record IsWithin (size : ℕ) (span : Option Span) : Type 0 where
  pub ordered : (s : Span) → span ≡ Some s → s.from ≤ s.upto
  pub within : (s : Span) → span ≡ Some s → s.upto ≤ size

-- each of these places is
abbrev pub AreWithin : List ℕ → List (Option Span) → Type 0
AreWithin texts spans = All (IsWithin (length texts)) spans

-- the place is that of a text behind others
pub record IsBehind (texts text : List ℕ) (span : Span) : Type 0 where
  pub from : span.from ≡ length texts
  pub upto : span.upto ≡ length texts + length text
