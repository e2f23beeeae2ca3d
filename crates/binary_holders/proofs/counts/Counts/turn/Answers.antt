use Rattle.std.proofs.Common.{◌+◌, refl}
use Rattle.binary_holders.specs.Inner.Counting.{no_lines}
use Rattle.binary_holders.proofs.CountFacts.{next-turn}
use Rattle.binary_holders.proofs.counts.Counts.turn.Goals as goal

pub returns-clause-counted : goal.returns-clause-counted
returns-clause-counted c = λ binaries heaps refs had.
    let old = c.args.self.now in
    next-turn binaries heaps refs old (record old { turn = old.turn + 1; count = 0; total = 0; heap = no_lines }) had refl refl refl refl refl
