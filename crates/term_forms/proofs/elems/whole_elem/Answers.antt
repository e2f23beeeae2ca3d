use Rattle.term_forms.proofs.OfForms.{found_whole, no_whole}
use Rattle.term_forms.proofs.elems.whole_elem.Goals as goal

pub returns-clause-found : goal.returns-clause-found
returns-clause-found c = found_whole c.args.text.now c.read_whole.result c.read_whole.ensures

pub returns-clause-none : goal.returns-clause-none
returns-clause-none c = no_whole c.args.text.now c.read_whole.result c.read_whole.ensures
