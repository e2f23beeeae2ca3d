use Rattle.term_unfold.proofs.InnerNodes.{inner-in-front}
use Rattle.term_unfold.proofs.laws.inner_node_is_its_children.Goals as goal

pub returns : goal.returns
returns c = inner-in-front
