use Rattle.std.proofs.Common.{arith}
use Rattle.cell_records.specs.Firsts.{AreApart}
use Rattle.cell_records.proofs.FirstFacts.{apart-first}
use Rattle.cell_records.proofs.firsts.are_apart.Goals as goal

pub returns-clause-first : goal.returns-clause-first
returns-clause-first c is addresses are =
    let apart : AreApart c.args.ranks.now = λ k next. c.loop-i.invariant.1 k (omega (arith, next)) in
    apart-first addresses c.args.ranks.now are apart
