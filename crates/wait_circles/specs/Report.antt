-- What is found of processes that wait for one another.
use Rattle.std.specs.Prelude.{ℕ, List, length}
use Rattle.wait_circles.specs.Waiters.{Waiter}
use Rattle.wait_circles.specs.Blockers.{blockers}
use Rattle.wait_circles.specs.Circles.{circles, numbered}
use Rattle.wait_circles.specs.declared.blocker.Blocker.{Blocker}
use Rattle.wait_circles.specs.declared.on_circle.OnCircle.{OnCircle}

-- the targets with how many come to each, the processes on circles, and how many circles there are
pub record WaitReport : Type 0 where
  pub blockers : List Blocker
  pub on_circles : List OnCircle
  pub circles : ℕ

-- what is found of these processes
abbrev pub wait_report : List Waiter → WaitReport
wait_report ws = record { blockers = blockers ws; on_circles = numbered 1 (circles ws); circles = length (circles ws) }
