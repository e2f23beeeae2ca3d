use Rattle.dump_io.proofs.FirstLines.{first-ended, first-open}
use Rattle.dump_io.proofs.lines.line_len.Goals as goal

pub returns-in-Some-clause-first : goal.returns-in-Some-clause-first
returns-in-Some-clause-first c =
    let lf = c.in-Some.ensures in
    first-ended c.args.bytes.now c.in-Some.lf lf.0.high lf.0.before lf.1

pub returns-in-None-clause-first : goal.returns-in-None-clause-first
returns-in-None-clause-first c = first-open c.args.bytes.now c.requires c.in-None.ensures
