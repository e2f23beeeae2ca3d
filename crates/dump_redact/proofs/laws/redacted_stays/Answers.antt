use Rattle.dump_redact.proofs.Places.{stays}
use Rattle.dump_redact.proofs.laws.redacted_stays.Goals as goal

pub returns : goal.returns
returns c = stays c.number_is_read.ensures c.form_is_read.ensures.found c.form_is_read-2.ensures.found
