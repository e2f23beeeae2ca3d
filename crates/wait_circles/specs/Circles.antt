-- Circles of processes that wait for one another.
use Rattle.std.specs.Prelude.{◌≡◌, ℕ, ◌+◌, ◌<◌, nat_eq, nat_le, List, [], ◌∷◌, ◌++◌, length, map, Option, None, Some, option_and_then, filter_map, if◌then◌else◌}
use Rattle.std.specs.List.{list_all, IsDistinct}
use Rattle.wait_circles.specs.Steps.{upto, way_within}
use Rattle.wait_circles.specs.Waiters.{Waiter, next_of}
use Rattle.wait_circles.specs.declared.on_circle.OnCircle.{OnCircle}

-- the first element behind the others
abbrev pub rotated : List ℕ → List ℕ
rotated [] = []
rotated (first ∷ rest) = rest ++ first ∷ []

-- different processes, each of which is the next of the one before, and the first of the last
pub record IsCircle (ws : List Waiter) (circle : List ℕ) : Type 0 where
  pub some : 0 < length circle
  pub distinct : IsDistinct nat_eq circle
  pub next : map (next_of ws) circle ≡ map Some (rotated circle)

-- the circle from a number on, in the order of the steps, if these lead back to it and no number on it is less
abbrev pub circle_from : (ℕ → Option ℕ) → ℕ → ℕ → Option (List ℕ)
circle_from next count r =
    option_and_then (λ way. if list_all (nat_le r) way then Some way else None) (way_within next r count r)

-- the circles, each from its first process on, in the order of their first processes
abbrev pub circles : List Waiter → List (List ℕ)
circles ws = filter_map (circle_from (next_of ws) (length ws)) (upto (length ws))

-- the processes of a circle with this number
abbrev pub members : ℕ → List ℕ → List OnCircle
members number circle = map (λ r. record { circle = number; process = r }) circle

-- the processes of circles, which are numbered from this number on
abbrev pub numbered : ℕ → List (List ℕ) → List OnCircle
numbered number [] = []
numbered number (circle ∷ more) = members number circle ++ numbered (number + 1) more
