use Rattle.std.proofs.Common.{◌≡◌, ◌+◌, sym, subst}
use Rattle.std.specs.Prelude.{Some}
use Rattle.wait_circles.specs.Inner.Blocking.{AreLeft}
use Rattle.wait_circles.specs.Inner.Leading.{onto}
use Rattle.wait_circles.proofs.BlockFacts.{left-more}
use Rattle.wait_circles.proofs.blockers.take_blocker.Goals as goal

pub returns-clause-left : goal.returns-clause-left
returns-clause-left c =
    let leads = c.args.leads.now in
    let at : onto leads c.args.process ≡ Some c.in_ok-lead.lead = c.in_ok-lead.was in
    let below = c.requires.within.each c.args.process c.in_ok-lead.lead at in
    subst (λ l. AreLeft leads l (c.args.process + 1)) (sym c.take_count-count.ensures.rest) (left-more leads c.args.direct.now.items c.args.process c.in_ok-lead.lead c.requires.left at below)
