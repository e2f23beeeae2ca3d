use Rattle.binary_payloads.proofs.Ranges.{cover-covered}
use Rattle.binary_payloads.proofs.covering.cover_holds_range.Goals as goal

pub returns : goal.returns
returns c = cover-covered c.args.enc
