use Rattle.etf_terms.proofs.Unique.{prefix_free}
use Rattle.etf_terms.proofs.laws.no_proper_prefix.Goals as goal

pub returns : goal.returns
returns c = prefix_free
