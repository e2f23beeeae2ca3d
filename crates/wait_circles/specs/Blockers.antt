-- That for which processes wait, and how many come to it.
use Rattle.std.specs.Prelude.{ℕ, ◌&&◌, not, List, length, Option, None, Some, option_and_then, count_by, filter_map, if◌then◌else◌}
use Rattle.std.specs.List.{list_any}
use Rattle.text_groups.specs.Sorting.{most_first}
use Rattle.wait_circles.specs.Steps.{upto}
use Rattle.wait_circles.specs.Waiters.{Waiter, has_pid, target_at, waiter_at, waits_for}
use Rattle.wait_circles.specs.Coming.{comes}
use Rattle.wait_circles.specs.declared.blocker.Blocker.{Blocker}

-- how many processes come to a target, beside the one whose pid it is
abbrev pub all_of : List Waiter → List ℕ → ℕ
all_of ws target = count_by (λ r. comes ws target r && not (has_pid target (waiter_at ws r))) (upto (length ws))

-- how many wait for it
abbrev pub direct_of : List Waiter → List ℕ → ℕ
direct_of ws target = count_by (waits_for ws target) (upto (length ws))

-- that for which the process at a place waits, if none before it waits for the same
abbrev pub blocker_at : List Waiter → ℕ → Option Blocker
blocker_at ws r =
    option_and_then (λ target. if list_any (waits_for ws target) (upto r) then None
    else Some (record { first = r; all = all_of ws target; direct = direct_of ws target })) (target_at ws r)

-- the targets, that to which most come first; of equal ones that for which a process waits first
abbrev pub blockers : List Waiter → List Blocker
blockers ws = most_first (λ blocker. blocker.all) (filter_map (blocker_at ws) (upto (length ws)))
