use Rattle.std.proofs.Common.{◌≡◌, ◌≤◌, suc, ◌∷◌, max, length, ap, sym, ◌∙◌, subst, arith}
use Rattle.etf_terms.specs.Depth.{depth}
use Rattle.etf_terms.specs.Inner.Awaiting.{Awaits}
use Rattle.etf_terms.proofs.Heights.{awaits-whole, most-on}
use Rattle.etf_terms.proofs.nesting.height.Goals as goal

pub loop-count-init : goal.loop-count-init
loop-count-init c =
    let one = c.in_ok-push.ensures ∙ ap (λ l. 1 ∷ l) c.new-wanted.ensures in
    record {
      within = omega (arith, ap length one);
      awaits = λ term p.
          let most : max 1 (suc (depth term)) ≡ suc (depth term) = omega arith in
          (suc (depth term), subst (λ l. Awaits l c.args.bytes.now (suc (depth term))) (sym one) (awaits-whole term c.args.bytes.now p), most);
    }

pub loop-count-preserved : goal.loop-count-preserved
loop-count-preserved c =
    let inv = c.loop-count.invariant in
    let most = c.larger-most.ensures ∙ ap (λ n. max c.loop-count.most n) c.len.ensures in
    record {
      within = omega (arith, most);
      awaits = λ term p.
          let a = inv.awaits term p in
          let goes = c.in-Ok.ensures.goes a.0 (subst (λ l. Awaits l c.loop-count.rest.now a.0) c.in-Some.ensures a.1) in
          let wide : suc (length c.pop.new.self) ≤ c.loop-count.most = omega (arith, inv.within, ap length c.in-Some.ensures) in
          (goes.later, goes.awaits, ap (λ n. max n goes.later) most ∙ most-on c.loop-count.most _ a.0 (length c.step.new.wanted) goes.later _ wide goes.reaches a.2);
    }
