use Rattle.wait_requests.proofs.TextFacts.{are-texts}
use Rattle.wait_requests.proofs.laws.a_reference_has_its_words.Goals as goal

pub returns : goal.returns
returns c = are-texts
