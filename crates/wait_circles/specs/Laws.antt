-- What the definitions imply.
use Rattle.std.specs.Prelude.{◌≡◌, ◌↔◌, ℕ, ◌<◌, ◌≤◌, true, List, All, AllPairs, Any, Contains, slice_index}
use Rattle.wait_circles.specs.Waiters.{HaveOwnPids, Waiter, waiter_at}
use Rattle.wait_circles.specs.Coming.{ComesTo, comes}
use Rattle.wait_circles.specs.Blockers.{all_of}
use Rattle.wait_circles.specs.Circles.{IsCircle, circles}

-- the test finds exactly the processes that come to a target
abbrev pub AreFound : Type 0
AreFound = (ws : List Waiter) (target : List ℕ) (r : ℕ) → (comes ws target r ≡ true) ↔ ComesTo ws r target

-- the process with which a circle begins
abbrev pub first_of : List ℕ → ℕ
first_of circle = slice_index circle 0

-- a circle, told from its least process on
pub record IsFromLeast (ws : List Waiter) (circle : List ℕ) : Type 0 where
  pub is : IsCircle ws circle
  pub least : All (λ r. first_of circle ≤ r) circle

-- each of the circles is one, told from its least process on
abbrev pub AreCircles : Type 0
AreCircles = (ws : List Waiter) → All (IsFromLeast ws) (circles ws)

-- the circles are in the order of the processes with which they begin
abbrev pub AreInOrder : Type 0
AreInOrder = (ws : List Waiter) → AllPairs (λ before after. first_of before < first_of after) (circles ws)

-- a process stands on one of the circles exactly if it comes to its own pid
abbrev pub AreAllCircles : Type 0
AreAllCircles = (ws : List Waiter) → HaveOwnPids ws
    → (r : ℕ) → Any (λ circle. Contains circle r) (circles ws) ↔ ComesTo ws r (waiter_at ws r).pid

-- as many come to one process of a circle as to another
abbrev pub HaveSameAll : Type 0
HaveSameAll = (ws : List Waiter) → HaveOwnPids ws → (circle : List ℕ) → IsCircle ws circle
    → (r s : ℕ) → Contains circle r → Contains circle s → all_of ws (waiter_at ws r).pid ≡ all_of ws (waiter_at ws s).pid
