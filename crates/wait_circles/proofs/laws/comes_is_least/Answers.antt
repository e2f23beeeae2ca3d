use Rattle.wait_circles.proofs.ComingFacts.{comes-test, test-comes}
use Rattle.wait_circles.proofs.laws.comes_is_least.Goals as goal

pub returns : goal.returns
returns c = λ ws target r. (test-comes ws target r, comes-test ws target r)
