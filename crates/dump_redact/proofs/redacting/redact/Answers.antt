use Rattle.std.proofs.Common.{◌<◌, length, sym, arith}
use Rattle.dump_io.specs.Laws.Puts.{grown-nil}
use Rattle.dump_redact.specs.Redacted.{redacted}
use Rattle.dump_redact.proofs.Alike.{keeps-length}
use Rattle.dump_redact.proofs.Offsets.{built-told}
use Rattle.dump_redact.proofs.redacting.redact.Goals as goal

pub returns-in-Some-clause-writes : goal.returns-in-Some-clause-writes
returns-in-Some-clause-writes g c bytes is =
    let of = built-told (g.D.Dumps.state c.args.dumps.now).now c.args.index.now bytes c.requires is in
    let some : 0 < length (redacted bytes) = omega (arith, keeps-length bytes, of.size, c.large.ensures.some) in
    record { whole = tt; front = record { count = 0; short = some; front = sym (grown-nil _) } }

pub returns-in_default-make_buffer-clause-writes : goal.returns-in_default-make_buffer-clause-writes
returns-in_default-make_buffer-clause-writes g c bytes is =
    let of = built-told (g.D.Dumps.state c.args.dumps.now).now c.args.index.now bytes c.requires is in
    let some : 0 < length (redacted bytes) = omega (arith, keeps-length bytes, of.size, c.large.ensures.some) in
    record { whole = tt; front = record { count = 0; short = some; front = sym (grown-nil _) } }
