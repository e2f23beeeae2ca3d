use Rattle.term_forms.specs.Forms.{plain_form}
use Rattle.term_forms.proofs.FormsRead.{form_full}
use Rattle.term_forms.proofs.OfForms.{plain_form_is}
use Rattle.term_forms.proofs.laws.plain_spelling_of_forms.Goals as goal

pub returns-clause-spells : goal.returns-clause-spells
returns-clause-spells c = plain_form_is c.args.enc

pub returns-clause-again : goal.returns-clause-again
returns-clause-again c = λ text f is. form_full c.args.enc c.payload_bytes_are_read.ensures (plain_form f) f (plain_form_is c.args.enc text f is)
