use Rattle.std.proofs.Common.{ap, arith}
use Rattle.std.specs.List.{sum_by}
use Rattle.std.proofs.lemmas.List.{take_all}
use Rattle.std.proofs.lemmas.List.Sums.{sum_by_more}
use Rattle.binary_holders.specs.declared.rows.Holding.{Holding}
use Rattle.binary_holders.proofs.using.sum_counted.Goals as goal

abbrev nothing : Holding
nothing = record {
  process = 0;
  counted = 0;
  bytes = 0;
  total = 0;
  count = 0;
  lines = 0;
  cells = 0;
  first = 0;
}

pub loop-holding-preserved : goal.loop-holding-preserved
loop-holding-preserved c =
    omega (arith, c.loop-holding.invariant, c.saturating_add-sum.ensures, sum_by_more (λ (h : Holding). h.counted) c.args.held.now c.loop-holding.holding-index nothing c.loop-holding-test.true)

pub returns : goal.returns
returns c =
    let whole = take_all c.loop-holding.holding-index c.args.held.now c.loop-holding-test.false in
    omega (arith, c.capped.ensures, c.loop-holding.invariant, ap (sum_by (λ (h : Holding). h.counted)) whole)
