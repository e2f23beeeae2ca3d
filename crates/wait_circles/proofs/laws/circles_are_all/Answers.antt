use Rattle.wait_circles.proofs.CircleFacts.{circles-are, circles-ascend, on-one, one-comes}
use Rattle.wait_circles.proofs.laws.circles_are_all.Goals as goal

pub returns-clause-circles : goal.returns-clause-circles
returns-clause-circles c = circles-are

pub returns-clause-in_order : goal.returns-clause-in_order
returns-clause-in_order c = circles-ascend

pub returns-clause-all : goal.returns-clause-all
returns-clause-all c = λ ws own r. (one-comes ws r, on-one ws own r)
