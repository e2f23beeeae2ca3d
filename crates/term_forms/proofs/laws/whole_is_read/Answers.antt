use Rattle.term_forms.proofs.FormParts.{whole_full, whole_sound}
use Rattle.term_forms.proofs.OfForms.{whole_none, whole_none_from}
use Rattle.term_forms.proofs.laws.whole_is_read.Goals as goal

pub returns-clause-found : goal.returns-clause-found
returns-clause-found c = λ text e. (whole_sound text e, whole_full text e)

pub returns-clause-none : goal.returns-clause-none
returns-clause-none c = λ text. (whole_none text, whole_none_from text)
