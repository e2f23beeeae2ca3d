use Rattle.term_forms.specs.Elements.{plain_elem}
use Rattle.term_forms.proofs.OfElements.{plain_is, front_whole}
use Rattle.term_forms.proofs.laws.plain_spelling_of_elements.Goals as goal

pub returns-clause-spells : goal.returns-clause-spells
returns-clause-spells c = plain_is

pub returns-clause-again : goal.returns-clause-again
returns-clause-again c = λ text e is. front_whole (plain_elem e) e (plain_is text e is)
