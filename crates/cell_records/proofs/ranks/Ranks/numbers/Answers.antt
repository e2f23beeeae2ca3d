use Rattle.std.proofs.Common.{◌≡◌, length, take, sym, ◌∙◌, ap, subst, arith}
use Rattle.std.proofs.Math.Seq.{take-length}
use Rattle.cell_records.specs.Order.{IsOrder}
use Rattle.cell_records.proofs.OrderFacts.{numbers_of, order-of}
use Rattle.cell_records.proofs.ranks.Ranks.numbers.Goals as goal

pub returns-clause-order : goal.returns-clause-order
returns-clause-order c addresses are =
    let pairs = c.args.self.now in
    let all : c.loop-i.i ≡ length pairs = omega arith in
    let whole : take c.loop-i.i pairs ≡ pairs = ap (λ n. take n pairs) all ∙ take-length pairs in
    subst (IsOrder addresses) (sym (c.loop-i.invariant ∙ ap numbers_of whole)) (order-of addresses pairs are)
