use Rattle.std.proofs.Common.{sym, arith}
use Rattle.std.proofs.lemmas.List.{take_all, drop_all}
use Rattle.term_text.proofs.binary_report.split_line.Goals as goal

pub returns-else-bytes-gt32-clause-line : goal.returns-else-bytes-gt32-clause-line
returns-else-bytes-gt32-clause-line c = sym (take_all 32 c.args.bytes.now (omega (arith, c.if-bytes-gt32.false)))

pub returns-else-bytes-gt32-clause-behind : goal.returns-else-bytes-gt32-clause-behind
returns-else-bytes-gt32-clause-behind c = sym (drop_all 32 c.args.bytes.now (omega (arith, c.if-bytes-gt32.false)))
