use Rattle.std.proofs.Common.{sym}
use Rattle.term_forms.specs.SeenForms.{heap_form}
use Rattle.term_forms.proofs.FormsTaken.{form_sound}
use Rattle.term_forms.proofs.forms.spelled_form.Goals as goal

pub returns-clause-spelled : goal.returns-clause-spelled
returns-clause-spelled c = form_sound c.args.enc c.payload_bytes_are_read.ensures c.args.text.now (heap_form c.in-Some.found) (sym c.in-Some.ensures)
