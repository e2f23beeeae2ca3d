use Rattle.etf_terms.proofs.Whole.{judges-all}
use Rattle.etf_terms.proofs.laws.bad_place_is_longest.Goals as goal

pub returns : goal.returns
returns c = judges-all
