use Rattle.link_graph.proofs.KindLaws.{is_kind}
use Rattle.link_graph.proofs.laws.an_entry_has_one_kind.Goals as goal

pub returns : goal.returns
returns c = is_kind
