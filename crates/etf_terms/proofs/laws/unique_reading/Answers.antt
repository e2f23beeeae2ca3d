use Rattle.etf_terms.proofs.Unique.{unique}
use Rattle.etf_terms.proofs.laws.unique_reading.Goals as goal

pub returns : goal.returns
returns c = unique
