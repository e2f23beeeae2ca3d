use Rattle.std.proofs.Common.{◌≡◌, take}
use Rattle.dump_triage.specs.Ranking.{rows_by}
use Rattle.dump_triage.specs.Triage.{count_at_first, state_texts}
use Rattle.dump_triage.specs.Inner.States.{AreLeft}
use Rattle.dump_triage.proofs.states.commonest_states.Given as goal

-- the rows of the places so far, and the states that don't stand there are left
abbrev pub invariant-loop-p : goal.invariant-loop-p
invariant-loop-p l = record {
  rows : l.rows.items ≡ rows_by (count_at_first (state_texts l.procs.processes)) (take l.p (state_texts l.procs.processes));
  left : AreLeft l.counts (state_texts l.procs.processes) l.p;
}
