use Rattle.term_forms.proofs.OfForms.{one_form}
use Rattle.term_forms.proofs.laws.unique_reading_of_forms.Goals as goal

pub returns : goal.returns
returns c = one_form c.args.enc c.payload_bytes_are_read.ensures
