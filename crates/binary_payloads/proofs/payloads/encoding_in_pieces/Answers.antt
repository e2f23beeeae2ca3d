use Rattle.binary_payloads.proofs.Encodings.{encoding-append, length-encoding}
use Rattle.binary_payloads.proofs.payloads.encoding_in_pieces.Goals as goal

pub returns-clause-pieces : goal.returns-clause-pieces
returns-clause-pieces c = encoding-append c.args.enc

pub returns-clause-length : goal.returns-clause-length
returns-clause-length c = length-encoding c.args.enc
