use Rattle.link_graph.proofs.RequestFacts.{are-names}
use Rattle.link_graph.proofs.laws.a_partner_is_named.Goals as goal

pub returns : goal.returns
returns c = are-names
