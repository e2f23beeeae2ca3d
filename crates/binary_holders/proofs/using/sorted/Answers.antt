use Rattle.std.proofs.lemmas.List.Sorted.{All-permutation}
use Rattle.binary_holders.specs.Usage.{NamesProcess}
use Rattle.binary_holders.proofs.using.sorted.Goals as goal

pub returns-clause-named : goal.returns-clause-named
returns-clause-named c = λ count named.
    All-permutation (NamesProcess count) c.args.held.items c.sort_most_first_twice.new.rows.items c.sort_most_first_twice.ensures.permutation named
