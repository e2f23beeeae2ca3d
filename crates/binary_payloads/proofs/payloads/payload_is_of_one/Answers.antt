use Rattle.binary_payloads.proofs.Encodings.{payload-unique, length-payload}
use Rattle.binary_payloads.proofs.payloads.payload_is_of_one.Goals as goal

pub returns-clause-bytes : goal.returns-clause-bytes
returns-clause-bytes c = payload-unique c.args.enc

pub returns-clause-length : goal.returns-clause-length
returns-clause-length c = length-payload c.args.enc
