use Rattle.binary_payloads.specs.declared.enc.Enc.TheVariants.{Hex, Base64}
use Rattle.dump_redact.proofs.Zeros.{hex-stays, base64-stays}
use Rattle.dump_redact.proofs.Places.{binaries}
use Rattle.dump_redact.proofs.laws.binaries_stay.Goals as goal

pub returns-clause-hex : goal.returns-clause-hex
returns-clause-hex c = binaries c.number_is_read.ensures Hex c.form_is_read.ensures.found hex-stays

pub returns-clause-base64 : goal.returns-clause-base64
returns-clause-base64 c = binaries c.number_is_read.ensures Base64 c.form_is_read-2.ensures.found base64-stays
