use Rattle.term_forms.proofs.LedFronts.{front-some, front-none}
use Rattle.term_forms.proofs.laws.number_is_in_front.Goals as goal

pub returns-clause-found : goal.returns-clause-found
returns-clause-found c = λ text rest n. front-some text rest n

pub returns-clause-none : goal.returns-clause-none
returns-clause-none c = front-none
