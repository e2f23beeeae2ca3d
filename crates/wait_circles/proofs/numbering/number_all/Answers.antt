use Rattle.wait_circles.proofs.NumberFacts.{AreNumbered-more}
use Rattle.wait_circles.proofs.numbering.number_all.Goals as goal

pub loop-process-preserved : goal.loop-process-preserved
loop-process-preserved g c =
    AreNumbered-more (g.W.Waiting.waiters c.args.waiting.now) c.loop-process.others c.number_at.new.others c.loop-process.leads.items c.push.new.self.items c.in_ok-number.number c.loop-process.process
    c.loop-process.invariant c.number_at.ensures.grown c.in_ok-number.ensures.lead c.in_ok-push.ensures.items
