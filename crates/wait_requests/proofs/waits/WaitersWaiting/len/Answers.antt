use Rattle.std.proofs.Common.{length, sym, ◌∙◌, ap}
use Rattle.wait_requests.proofs.WaitFacts.{length-with}
use Rattle.wait_requests.proofs.waits.WaitersWaiting.len.Goals as goal

pub returns-clause-value : goal.returns-clause-value
returns-clause-value c =
    let w = c.self.inside in
    c.len.ensures ∙ c.self.invariant.count ∙ sym (length-with w.procs.now.processes w.waits.now c.self.invariant.count) ∙ ap length c.self.view_is
