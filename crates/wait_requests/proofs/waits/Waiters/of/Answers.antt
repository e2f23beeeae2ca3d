use Rattle.wait_requests.proofs.WaitFacts.{own-pids}
use Rattle.wait_requests.proofs.waits.Waiters.of.Goals as goal

pub invariant_of-result : goal.invariant_of-result
invariant_of-result c = record {
  count = c.requires.count;
  own = own-pids c.requires.procs.0 c.args.procs.now.processes c.args.waits.now c.requires.procs.1.pids c.requires.count;
}
