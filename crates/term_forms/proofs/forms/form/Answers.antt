use Rattle.term_forms.proofs.OfForms.{found_form, no_form}
use Rattle.term_forms.proofs.forms.form.Goals as goal

pub returns-clause-found : goal.returns-clause-found
returns-clause-found c = found_form c.args.enc c.payload_bytes_are_read.ensures c.args.text.now c.read_form.result c.read_form.ensures

pub returns-clause-none : goal.returns-clause-none
returns-clause-none c = no_form c.args.enc c.payload_bytes_are_read.ensures c.args.text.now c.read_form.result c.read_form.ensures
