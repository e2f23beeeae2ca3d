use Rattle.std.proofs.Common.{length, ◌∙◌, ap, arith}
use Rattle.wait_circles.specs.Waiters.{target_at}
use Rattle.wait_requests.proofs.WaitFacts.{length-with, target-with}
use Rattle.wait_requests.proofs.waits.WaitersWaiting.target.Goals as goal

pub target-requires : goal.target-requires
target-requires c =
    let w = c.self.inside in
    let all = length-with w.procs.now.processes w.waits.now c.self.invariant.count in
    let view = ap length c.self.view_is in
    omega (arith, c.self.invariant.count, all, view, c.requires)

pub returns : goal.returns
returns c =
    let w = c.self.inside in
    let all = length-with w.procs.now.processes w.waits.now c.self.invariant.count in
    let view = ap length c.self.view_is in
    c.target.ensures
    ∙ target-with w.procs.now.processes w.waits.now c.args.process c.self.invariant.count (omega (arith, c.self.invariant.count, all, view, c.requires))
    ∙ ap (λ ws. target_at ws c.args.process) c.self.view_is
