use Rattle.std.proofs.Common.{sym, arith}
use Rattle.std.proofs.lemmas.List.{set_past}
use Rattle.heap_skeleton.proofs.resolving.put_number.Goals as goal

pub returns-else-place-numbers : goal.returns-else-place-numbers
returns-else-place-numbers c = sym (set_past c.args.numbers.now c.args.place c.args.number (omega arith))
