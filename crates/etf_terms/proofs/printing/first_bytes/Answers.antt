use Rattle.std.proofs.Common.{sym, arith, length-take-le}
use Rattle.std.proofs.lemmas.List.{take_all}
use Rattle.etf_terms.proofs.printing.first_bytes.Goals as goal

pub slice_bounds-result-end : goal.slice_bounds-result-end
slice_bounds-result-end c = sym (length-take-le 32 c.args.bytes.now (omega (arith, c.if-bytes-gt32.true)))

pub returns-else-bytes-gt32 : goal.returns-else-bytes-gt32
returns-else-bytes-gt32 c = sym (take_all 32 c.args.bytes.now (omega (arith, c.if-bytes-gt32.false)))
