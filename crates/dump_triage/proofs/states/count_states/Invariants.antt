use Rattle.std.proofs.Common.{take}
use Rattle.dump_triage.specs.Triage.{state_texts}
use Rattle.dump_triage.specs.Inner.States.{AreCounted}
use Rattle.dump_triage.proofs.states.count_states.Given as goal

-- the states so far are counted
abbrev pub invariant-loop-p : goal.invariant-loop-p
invariant-loop-p l = AreCounted l.counts (take l.p (state_texts l.procs.processes))
