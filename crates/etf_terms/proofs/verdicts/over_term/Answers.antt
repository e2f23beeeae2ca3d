use Rattle.std.proofs.Common.{sym, ap, ◌∙◌, arith, ◌+◌, ◌-◌}
use Rattle.etf_terms.specs.Inner.Parts.{head}
use Rattle.etf_terms.specs.Walks.{walk_terms}
use Rattle.etf_terms.proofs.Loops.{turn, turn-off, head-is_shorter}
use Rattle.etf_terms.proofs.verdicts.over_term.Goals as goal

pub returns-in-Err : goal.returns-in-Err
returns-in-Err c =
    let off = turn-off c.loop-pending.pending c.loop-pending.rest.now c.in-Err.left c.loop-pending-test.true c.in-Err.ensures in
    (off.0, sym c.loop-pending.invariant.same ∙ off.1, off.2)

pub loop-pending-smaller : goal.loop-pending-smaller
loop-pending-smaller c = head-is_shorter c.loop-pending.rest.now (head c.in-Ok.found.0) c.in-Ok.found.1.now c.in-Ok.ensures

pub loop-pending-preserved : goal.loop-pending-preserved
loop-pending-preserved c =
    let shorter = head-is_shorter c.loop-pending.rest.now (head c.in-Ok.found.0) c.in-Ok.found.1.now c.in-Ok.ensures in
    record {
      same = ap (λ k. walk_terms (c.loop-pending.pending - 1 + k) c.in-Ok.found.1.now) c.kids.ensures.value
          ∙ turn c.loop-pending.pending c.loop-pending.rest.now (head c.in-Ok.found.0) c.in-Ok.found.1.now c.loop-pending-test.true c.in-Ok.ensures
          ∙ c.loop-pending.invariant.same;
      few = omega (arith, shorter, c.kids.ensures.few, c.loop-pending.invariant.few, c.loop-pending-test.true);
    }
