use Rattle.wait_circles.proofs.CircleFacts.{same-all}
use Rattle.wait_circles.proofs.laws.all_on_a_circle.Goals as goal

pub returns : goal.returns
returns c = same-all
