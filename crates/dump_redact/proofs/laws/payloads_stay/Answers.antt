use Rattle.dump_redact.proofs.Zeros.{hex-stays, base64-stays}
use Rattle.dump_redact.proofs.laws.payloads_stay.Goals as goal

pub returns-clause-hex : goal.returns-clause-hex
returns-clause-hex c = hex-stays

pub returns-clause-base64 : goal.returns-clause-base64
returns-clause-base64 c = base64-stays
