-- The definitions at worked examples, which the checker computes.
use Rattle.std.proofs.Common.{◌≡◌, List, [], ◌∷◌, None, Some, refl}
use Rattle.std.specs.Prelude.{codes}
use Rattle.wait_circles.specs.Blockers.{blockers}
use Rattle.wait_circles.specs.Circles.{circles}
use Rattle.wait_circles.specs.Waiters.{Waiter}

-- two that wait for each other, one that waits for the first of them,
-- one that waits for itself, and two that wait for a name
abbrev some : List Waiter
some =
    record { pid = codes "a"; target = Some (codes "b") }
    ∷ record { pid = codes "b"; target = Some (codes "a") }
    ∷ record { pid = codes "c"; target = Some (codes "a") }
    ∷ record { pid = codes "d"; target = Some (codes "d") }
    ∷ record { pid = codes "e"; target = Some (codes "n") }
    ∷ record { pid = codes "f"; target = Some (codes "e") }
    ∷ record { pid = codes "g"; target = None }
    ∷ []

-- the target's own process isn't counted, and the largest comes first
in_order : blockers some
    ≡ record { first = 0; all = 2; direct = 1 }
    ∷ record { first = 1; all = 2; direct = 2 }
    ∷ record { first = 4; all = 2; direct = 1 }
    ∷ record { first = 5; all = 1; direct = 1 }
    ∷ record { first = 3; all = 0; direct = 1 }
    ∷ []
in_order = refl

-- each circle is told once, from its first process on
both : circles some ≡ (0 ∷ 1 ∷ []) ∷ (3 ∷ []) ∷ []
both = refl
