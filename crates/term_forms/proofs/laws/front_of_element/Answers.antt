use Rattle.std.proofs.Common.{◌++◌, length}
use Rattle.term_forms.proofs.OfElements.{front_is, front_before}
use Rattle.term_forms.proofs.laws.front_of_element.Goals as goal

pub returns : goal.returns
returns c = λ text rest e is ends. front_is (text ++ rest) e (length text) (front_before text rest e is ends)
