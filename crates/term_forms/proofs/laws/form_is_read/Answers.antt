use Rattle.term_forms.proofs.FormsRead.{form_full}
use Rattle.term_forms.proofs.FormsTaken.{form_sound}
use Rattle.term_forms.proofs.OfForms.{form_none, form_none_from}
use Rattle.term_forms.proofs.laws.form_is_read.Goals as goal

pub returns-clause-found : goal.returns-clause-found
returns-clause-found c = λ text f. (form_sound c.args.enc c.payload_bytes_are_read.ensures text f, form_full c.args.enc c.payload_bytes_are_read.ensures text f)

pub returns-clause-none : goal.returns-clause-none
returns-clause-none c = λ text. (form_none c.args.enc c.payload_bytes_are_read.ensures text, form_none_from c.args.enc c.payload_bytes_are_read.ensures text)
