use Rattle.term_forms.proofs.Ends.{number-ends}
use Rattle.term_forms.proofs.opening.number_in.Goals as goal

pub returns-clause-end : goal.returns-clause-end
returns-clause-end c = number-ends c.args.text.now c.args.rest.now c.split_number.result c.requires c.split_number.ensures.exact
