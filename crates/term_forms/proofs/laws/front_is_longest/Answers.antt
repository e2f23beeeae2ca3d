use Rattle.term_forms.proofs.OfElements.{front_is, front_from, front_none, front_none_from}
use Rattle.term_forms.proofs.laws.front_is_longest.Goals as goal

pub returns-clause-found : goal.returns-clause-found
returns-clause-found c = λ text e n. (front_is text e n, front_from text e n)

pub returns-clause-none : goal.returns-clause-none
returns-clause-none c = λ text. (front_none text, front_none_from text)
