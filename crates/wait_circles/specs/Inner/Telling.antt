-- The circles that are left when all others were peeled off, and how many come to each of their numbers.
use Rattle.std.specs.Prelude.{◌≡◌, ℕ, ◌+◌, ◌<◌, ◌≤◌, Bool, true, false, List, [], ◌∷◌, ◌++◌, length, Option, None, Some, is_some, slice_index, filter_map}
use Rattle.std.specs.List.{sum_by}
use Rattle.wait_circles.specs.Steps.{upto}
use Rattle.std.specs.Option.{option_map_or}
use Rattle.wait_circles.specs.Circles.{circle_from, members}
use Rattle.wait_circles.specs.declared.on_circle.OnCircle.{OnCircle}
use Rattle.wait_circles.specs.declared.tokens.Tokens.{Tokens}
use Rattle.wait_circles.specs.Inner.Leading.{onto, tokens, all_to, Comes}
use Rattle.wait_circles.specs.Inner.Meeting.{IsChain, IsOnce, is_on}

-- a circle: each number leads to the next one and the last to the first, and each stands there once
pub record IsRing (leads : List (Option ℕ)) (first : ℕ) (rest : List ℕ) : Type 0 where
  pub chain : IsChain (onto leads) (λ u. onto leads u ≡ Some first) (first ∷ rest)
  pub once : IsOnce (first ∷ rest)

-- what is left are circles, with how many tokens lie at each number; of each other number
-- it is known how many come to it, and the circles with a number below the bound were taken
pub record IsTelling (leads left : List (Option ℕ)) (counts : List ℕ) (below : ℕ) : Type 0 where
  -- where the token of each number lies
  pub places : List (Option ℕ)
  pub left_size : length left ≡ length leads
  pub places_size : length places ≡ length leads
  pub enough : length leads ≤ length counts
  pub within : (u v : ℕ) → onto leads u ≡ Some v → v < length counts
  pub at_told : (v : ℕ) → v < length counts → onto left v ≡ None → slice_index counts v ≡ all_to leads v
  pub at_left : (v w : ℕ) → onto left v ≡ Some w → slice_index counts v ≡ tokens places v
  pub led : (v w : ℕ) → onto left v ≡ Some w → onto leads v ≡ Some w
  pub ring : (v w : ℕ) → onto left v ≡ Some w → (rest : List ℕ) × IsRing leads v rest
  pub closed : (v w : ℕ) → Comes leads v v → onto left v ≡ None → onto leads v ≡ Some w → onto left w ≡ None
  pub earlier : (v : ℕ) → onto left v ≡ None → Comes leads v v → (s : ℕ) × (s < below) × Comes leads v s
  pub passed : (s : ℕ) → s < below → onto left s ≡ None
  pub sums : (v s : ℕ) (rest : List ℕ) → IsRing leads v rest → is_on s (v ∷ rest) ≡ true
      → all_to leads s + 1 ≡ sum_by (tokens places) (v ∷ rest)

-- the circles whose first number is below this one, if no more than so many numbers are on one
abbrev pub circles_below : List (Option ℕ) → ℕ → ℕ → List (List ℕ)
circles_below leads count below = filter_map (circle_from (onto leads) count) (upto below)

-- these numbers lead nowhere any more, and each of them has this many tokens less 1
pub record TakesRing (old new : List (Option ℕ)) (counts told_counts : List ℕ) (vs : List ℕ) (total : ℕ) : Type 0 where
  pub left_size : length new ≡ length old
  pub counts_size : length told_counts ≡ length counts
  pub gone : (v : ℕ) → is_on v vs ≡ true → onto new v ≡ None
  pub left_out : (v : ℕ) → is_on v vs ≡ false → onto new v ≡ onto old v
  pub told : (v : ℕ) → is_on v vs ≡ true → slice_index told_counts v + 1 ≡ total
  pub counts_out : (v : ℕ) → is_on v vs ≡ false → slice_index told_counts v ≡ slice_index counts v

-- the same of tokens of which all were peeled off that can be
pub record AreTelling (t : Tokens) (below : ℕ) : Type 0 where
  pub telling : IsTelling t.leads.items t.left.items t.counts.items below

-- what leads somewhere is below this number
pub record LeadBelow (leads : List (Option ℕ)) (count : ℕ) : Type 0 where
  pub each : (u v : ℕ) → onto leads u ≡ Some v → u < count

-- the first of these numbers, or else this one
abbrev pub first_or : ℕ → List ℕ → ℕ
first_or home [] = home
first_or home (v ∷ vs) = v

-- the first numbers of a circle were taken, with how many tokens lie on them, and here is the next
pub record IsWalking (leads left now : List (Option ℕ)) (counts : List ℕ) (home here total circle : ℕ) (on taken : List OnCircle) : Type 0 where
  pub rest : List ℕ
  pub walked : List ℕ
  pub to_come : List ℕ
  pub ring : IsRing leads home rest
  pub parts : home ∷ rest ≡ walked ++ to_come
  pub next : here ≡ first_or home to_come
  pub left_size : length now ≡ length left
  pub gone : (v : ℕ) → is_on v walked ≡ true → onto now v ≡ None
  pub out : (v : ℕ) → is_on v walked ≡ false → onto now v ≡ onto left v
  pub sum : total ≡ sum_by (slice_index counts) walked
  pub all : taken ≡ on ++ members circle walked

-- a circle was taken, on which so many tokens lie
pub record WalksCircle (old new : Tokens) (home circle : ℕ) (on taken : List OnCircle) (total : ℕ) : Type 0 where
  pub rest : List ℕ
  pub ring : IsRing old.leads.items home rest
  pub leads : new.leads.items ≡ old.leads.items
  pub counts : new.counts.items ≡ old.counts.items
  pub left_size : length new.left.items ≡ length old.left.items
  pub gone : (v : ℕ) → is_on v (home ∷ rest) ≡ true → onto new.left.items v ≡ None
  pub out : (v : ℕ) → is_on v (home ∷ rest) ≡ false → onto new.left.items v ≡ onto old.left.items v
  pub sum : total ≡ sum_by (slice_index old.counts.items) (home ∷ rest)
  pub all : taken ≡ on ++ members circle (home ∷ rest)

-- this many come to each of these numbers
pub record AreTold (old new : Tokens) (vs : List ℕ) (all : ℕ) : Type 0 where
  pub leads : new.leads.items ≡ old.leads.items
  pub left : new.left.items ≡ old.left.items
  pub size : length new.counts.items ≡ length old.counts.items
  pub told : (v : ℕ) → is_on v vs ≡ true → slice_index new.counts.items v ≡ all
  pub out : (v : ℕ) → is_on v vs ≡ false → slice_index new.counts.items v ≡ slice_index old.counts.items v

-- the circle from a number on was taken, if there is one
pub record TakesCircle (old new : Tokens) (home circle : ℕ) (on taken : List OnCircle) (is_one : Bool) : Type 0 where
  pub found : Option (List ℕ)
  pub is : (count : ℕ) → LeadBelow old.leads.items count → circle_from (onto old.leads.items) count home ≡ found
  pub one : is_one ≡ is_some found
  pub all : taken ≡ on ++ option_map_or (members circle) found []
  pub leads : new.leads.items ≡ old.leads.items
  pub telling : AreTelling new (home + 1)
