-- Peeling off numbers to which none leads any more. Each number that leads to another has a token, which lies where it
-- leads at first. A number that is peeled off leads nowhere any more, and the tokens at it go on to where it led.
use Rattle.std.specs.Prelude.{◌≡◌, ℕ, ◌<◌, ◌≤◌, ◌⊎◌, List, length, Option, None, Some, slice_index, count_by, is_some}
use Rattle.wait_circles.specs.Inner.Leading.{onto, tokens, all_to, Comes, LeadWithin}
use Rattle.wait_circles.specs.declared.tokens.Tokens.{Tokens}

-- the number led to another, and leads nowhere any more
pub record IsGone (leads left : List (Option ℕ)) (v : ℕ) : Type 0 where
  pub to : ℕ
  pub led : onto leads v ≡ Some to
  pub gone : onto left v ≡ None

-- what is left of what leads where, how many lead to each number still, and how many tokens
-- lie at each; of one that was peeled off, how many lay there then, which is how many come to it
pub record IsPeeling (leads left : List (Option ℕ)) (counts incoming : List ℕ) : Type 0 where
  -- where the token of each number lies
  pub places : List (Option ℕ)
  pub left_size : length left ≡ length leads
  pub places_size : length places ≡ length leads
  pub counts_size : length counts ≡ length incoming
  pub enough : length leads ≤ length counts
  pub within : (u v : ℕ) → onto leads u ≡ Some v → v < length counts
  pub part : (v : ℕ) → (onto left v ≡ onto leads v) ⊎ (onto left v ≡ None)
  pub come_in : (v : ℕ) → v < length incoming → slice_index incoming v ≡ tokens left v
  pub sound : (r v : ℕ) → onto places r ≡ Some v → Comes leads r v
  pub complete : (r v : ℕ) → Comes leads r v
      → IsGone leads left v ⊎ (onto places r ≡ Some v) ⊎ ((p : ℕ) × (onto places r ≡ Some p) × Comes leads p v)
  pub stay : (r v : ℕ) → onto places r ≡ Some v → IsGone leads left v → ⊥
  pub backward : (u v : ℕ) → onto leads u ≡ Some v → IsGone leads left v → IsGone leads left u
  pub at_left : (v : ℕ) → v < length counts → (IsGone leads left v → ⊥) → slice_index counts v ≡ tokens places v
  pub at_gone : (v : ℕ) → v < length counts → IsGone leads left v → slice_index counts v ≡ all_to leads v
  pub no_circle : (v : ℕ) → IsGone leads left v → Comes leads v v → ⊥

-- of the numbers below this one, all were peeled off to which none leads; but one may be about to be
pub record IsPeeledUpto (left : List (Option ℕ)) (upto here : ℕ) : Type 0 where
  pub each : (v : ℕ) → v < upto → (v ≡ here → ⊥) → tokens left v ≡ 0 → onto left v ≡ None

-- the tokens are those of numbers of which some were peeled off
pub record ArePeeling (t : Tokens) : Type 0 where
  pub within : LeadWithin t.leads.items (length t.leads.items)
  pub peeling : IsPeeling t.leads.items t.left.items t.counts.items t.incoming.items

-- how many numbers lead to one still
abbrev pub leads_left : Tokens → ℕ
leads_left t = count_by is_some t.left.items

-- a number was peeled off that led to another
pub record PeelsTo (old new : Tokens) (v next : ℕ) : Type 0 where
  pub leads : new.leads.items ≡ old.leads.items
  pub peeling : ArePeeling new
  pub inside : next < length old.leads.items
  pub before : (n : ℕ) → IsPeeledUpto old.left.items n v → IsPeeledUpto new.left.items n next
  pub fewer : leads_left new < leads_left old

-- a number was peeled off, if it led to another
abbrev pub PeelsOne : Tokens → Tokens → ℕ → Option ℕ → Type 0
PeelsOne old new v None = (new ≡ old) × (onto old.left.items v ≡ None)
PeelsOne old new v (Some next) = PeelsTo old new v next
