use Rattle.term_unfold.proofs.FirstNodes.{first_nodes}
use Rattle.term_unfold.proofs.laws.text_is_of_first_nodes.Goals as goal

pub returns : goal.returns
returns c = first_nodes
