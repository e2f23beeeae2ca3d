-- Which process comes to which target.
use Rattle.std.specs.Prelude.{◌≡◌, ℕ, Bool, List, length, Some}
use Rattle.wait_circles.specs.Steps.{some_within}
use Rattle.wait_circles.specs.Waiters.{Waiter, target_at, next_of, waits_for}

-- a process comes to a target if it waits for it, or if its next comes to it
pub data ComesTo (ws : List Waiter) : ℕ → List ℕ → Type 0 where
  waits : (r : ℕ) (target : List ℕ) → target_at ws r ≡ Some target → ComesTo ws r target
  onward : (r s : ℕ) (target : List ℕ) → next_of ws r ≡ Some s → ComesTo ws s target → ComesTo ws r target

-- whether a process comes to a target: it is enough to look at as many processes as there are
abbrev pub comes : List Waiter → List ℕ → ℕ → Bool
comes ws target r = some_within (next_of ws) (waits_for ws target) (length ws) r
