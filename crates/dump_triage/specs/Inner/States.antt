-- Counting states, and then reporting each once.
use Rattle.std.specs.Prelude.{◌≡◌, ℕ, zero, suc, List, take, nat_lt, Option, None, Some, if◌then◌else◌}
use Rattle.std.specs.BTreeMap.{BTreeMap, get_by}
use Rattle.std.specs.Cmp.Lexicographic.{slice_cmp}
use Rattle.std.specs.Ordering.{nat_cmp}
use denote.Ref.{Bor}
use Rattle.dump_triage.specs.Triage.{text_count}

-- a number, if it isn't 0
abbrev pub unless_zero : ℕ → Option ℕ
unless_zero zero = None
unless_zero (suc less) = Some (suc less)

-- the number in a tree for a text
abbrev pub counted : BTreeMap (Bor (List ℕ)) ℕ → List ℕ → Option ℕ
counted counts text = get_by (λ key. slice_cmp nat_cmp text key.now) counts

-- the tree has for each text how often it occurs among these
pub record AreCounted (counts : BTreeMap (Bor (List ℕ)) ℕ) (texts : List (List ℕ)) : Type 0 where
  pub each : (text : List ℕ) → counted counts text ≡ unless_zero (text_count texts text)

-- the tree has for each text how often it occurs among these, but nothing for the texts that occur before a place
pub record AreLeft (counts : BTreeMap (Bor (List ℕ)) ℕ) (texts : List (List ℕ)) (place : ℕ) : Type 0 where
  pub each : (text : List ℕ)
      → counted counts text ≡ (if nat_lt 0 (text_count (take place texts) text) then None else unless_zero (text_count texts text))
