use Rattle.std.proofs.Common.{length, ◌-◌}
use Rattle.dump_redact.proofs.PlainLines.{IsDone}
use Rattle.dump_redact.proofs.heaps.redact_heap.Given as goal

abbrev pub invariant-loop-at : goal.invariant-loop-at
invariant-loop-at l = IsDone l.enc l.at l.initial.body l.body

abbrev pub decreases-loop-at : goal.decreases-loop-at
decreases-loop-at l = length l.body - l.at
