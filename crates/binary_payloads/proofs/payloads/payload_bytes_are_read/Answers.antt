use Rattle.binary_payloads.proofs.PayloadBytes.{payload-read}
use Rattle.binary_payloads.proofs.payloads.payload_bytes_are_read.Goals as goal

pub returns : goal.returns
returns c = payload-read c.args.enc
