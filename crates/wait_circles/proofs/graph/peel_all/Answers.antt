use Rattle.std.proofs.Common.{◌∙◌, subst, sym}
use Rattle.wait_circles.specs.Inner.Blocking.{CountsAll}
use Rattle.wait_circles.specs.Inner.Telling.{LeadBelow}
use Rattle.wait_circles.proofs.ReportFacts.{told-all}
use Rattle.wait_circles.proofs.graph.peel_all.Goals as goal

pub returns-clause-told : goal.returns-clause-told
returns-clause-told c =
    let t = c.take_circles.new.self in
    let same = c.in_ok-on_circles.ensures.leads ∙ c.peel.ensures.leads ∙ c.in_ok-tokens.ensures.leads in
    subst (λ l. CountsAll l t.counts.items) same
    (told-all t.leads.items t.left.items t.counts.items c.args.count c.in_ok-on_circles.ensures.told.telling (subst (λ l. LeadBelow l c.args.count) (sym same) c.requires.below))
