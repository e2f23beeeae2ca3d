-- Numbers that lead to others, each to one at most.
use Rattle.std.specs.Prelude.{◌≡◌, ℕ, ◌+◌, ◌<◌, Bool, cond, false, ◌&&◌, not, ◌==◌, List, length, Option, None, Some, slice_index, slice_index_or, count_by}
use Rattle.std.specs.Option.{option_map_or}
use Rattle.wait_circles.specs.Steps.{some_within, upto}
use Rattle.wait_circles.specs.Inner.Meeting.{ComesBy}

-- to which number another leads; past the last one, to none
abbrev pub onto : List (Option ℕ) → ℕ → Option ℕ
onto leads v = slice_index_or leads v None

-- whether this is the number
abbrev pub is_to : ℕ → Option ℕ → Bool
is_to v o = option_map_or (λ w. w == v) o false

-- how many of these are the number
abbrev pub tokens : List (Option ℕ) → ℕ → ℕ
tokens places v = count_by (is_to v) places

-- one number comes to another: it leads to it, or to one that comes to it
abbrev pub Comes : List (Option ℕ) → ℕ → ℕ → Type 0
Comes leads r v = ComesBy (onto leads) r v

-- whether one number comes to another
abbrev pub reaches : List (Option ℕ) → ℕ → ℕ → Bool
reaches leads v r = some_within (onto leads) (λ u. is_to v (onto leads u)) (length leads) r

-- how many others come to a number
abbrev pub all_to : List (Option ℕ) → ℕ → ℕ
all_to leads v = count_by (λ r. reaches leads v r && not (r == v)) (upto (length leads))

-- what a number leads to is below this one
pub record LeadWithin (leads : List (Option ℕ)) (count : ℕ) : Type 0 where
  pub each : (u v : ℕ) → onto leads u ≡ Some v → v < count

-- for each number below a bound how many of these are it
pub record CountsTokens (places : List (Option ℕ)) (counts : List ℕ) (count : ℕ) : Type 0 where
  pub size : length counts ≡ count
  pub each : (v : ℕ) → v < count → slice_index counts v ≡ tokens places v

-- where a number leads was counted
pub record CountsLead (old new : List ℕ) (lead : Option ℕ) : Type 0 where
  pub size : length new ≡ length old
  pub each : (v : ℕ) → slice_index new v ≡ slice_index old v + cond (is_to v lead) 1 0
