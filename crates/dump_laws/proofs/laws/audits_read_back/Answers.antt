use Rattle.dump_laws.proofs.Messages.{audits-read-back}
use Rattle.dump_laws.proofs.laws.audits_read_back.Goals as goal

pub returns : goal.returns
returns c = audits-read-back c.text_reads_back.ensures
