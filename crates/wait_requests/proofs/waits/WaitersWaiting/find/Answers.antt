use Rattle.std.proofs.Common.{◌∙◌, ap}
use Rattle.wait_circles.specs.Waiters.{process_of}
use Rattle.wait_requests.proofs.WaitFacts.{find-with}
use Rattle.wait_requests.proofs.waits.WaitersWaiting.find.Goals as goal

pub returns : goal.returns
returns c =
    let w = c.self.inside in
    c.get.ensures.place ∙ find-with w.procs.now.processes w.waits.now c.args.pid.now c.self.invariant.count ∙ ap (λ ws. process_of ws c.args.pid.now) c.self.view_is
