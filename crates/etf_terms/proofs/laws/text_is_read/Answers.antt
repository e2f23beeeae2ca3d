use Rattle.etf_terms.proofs.Computed.{reads-all}
use Rattle.etf_terms.proofs.laws.text_is_read.Goals as goal

pub returns : goal.returns
returns c = reads-all
