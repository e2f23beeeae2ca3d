use Rattle.term_forms.proofs.OfElements.{found_is, none_is}
use Rattle.term_forms.proofs.elements.elem.Goals as goal

pub returns-clause-found : goal.returns-clause-found
returns-clause-found c = found_is c.args.text.now c.front_elem.result c.front_elem.ensures.exact

pub returns-clause-none : goal.returns-clause-none
returns-clause-none c = none_is c.args.text.now c.front_elem.result c.front_elem.ensures.exact
