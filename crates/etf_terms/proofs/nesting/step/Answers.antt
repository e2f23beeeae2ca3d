use Rattle.std.proofs.Common.{suc, length, ap, sym, ◌∙◌, subst, arith}
use Rattle.etf_terms.specs.Heads.{kids}
use Rattle.etf_terms.specs.Inner.Awaiting.{opened, Goes}
use Rattle.etf_terms.specs.Inner.Parts.{head}
use Rattle.etf_terms.proofs.Heights.{closes-one, opened-few, opens-one, off-none}
use Rattle.etf_terms.proofs.Loops.{head-is_shorter}
use Rattle.etf_terms.proofs.nesting.step.Goals as goal

pub returns-then-count-eq0-clause-goes : goal.returns-then-count-eq0-clause-goes
returns-then-count-eq0-clause-goes c most s = closes-one c.args.count c.args.wanted.now c.args.rest.now most c.if-count-eq0.true s

pub returns-in_ok-enter-in-Ok-clause-falls : goal.returns-in_ok-enter-in-Ok-clause-falls
returns-in_ok-enter-in-Ok-clause-falls c =
    let shorter = head-is_shorter c.args.rest.now (head c.in-Ok.head) c.in-Ok.behind.now c.in-Ok.ensures in
    let few = opened-few c.kids.result c.push.new.self in
    omega (arith, shorter, few, ap length c.in_ok-push-in-Ok.ensures, ap length c.in_ok-enter-in-Ok.ensures)

pub returns-in_ok-enter-in-Ok-clause-goes : goal.returns-in_ok-enter-in-Ok-clause-goes
returns-in_ok-enter-in-Ok-clause-goes c most s =
    let h = head c.in-Ok.head in
    let counts = c.in_ok-enter-in-Ok.ensures ∙ ap (λ n. opened n c.push.new.self) c.kids.ensures.value ∙ ap (λ l. opened (kids h) l) c.in_ok-push-in-Ok.ensures in
    subst (λ l. Goes (suc (length c.args.wanted.now)) most l c.in-Ok.behind.now) (sym counts)
    (opens-one c.args.count c.args.wanted.now c.args.rest.now most h c.in-Ok.behind.now c.if-count-eq0.false c.in-Ok.ensures s)

pub returns-in-Err-clause-goes : goal.returns-in-Err-clause-goes
returns-in-Err-clause-goes c most s =
    absurd (off-none c.args.count c.args.wanted.now c.args.rest.now most c.in-Err.field-0 c.if-count-eq0.false c.in-Err.ensures s)
