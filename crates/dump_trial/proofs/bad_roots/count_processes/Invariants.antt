use Rattle.std.proofs.Common.{◌≡◌, ◌*◌, take}
use Rattle.dump_trial.specs.Trial.{tally_of}
use Rattle.dump_trial.specs.Inner.Tallies.{AreAtMost}
use Rattle.dump_trial.proofs.bad_roots.count_processes.Given as goal

-- the roots of the processes so far are counted, at most so many for each
abbrev pub invariant-loop-p : goal.invariant-loop-p
invariant-loop-p l =
    (l.held ≡ l.fn.held)
    × (l.all ≡ tally_of l.fn.held (take l.p l.procs.processes))
    × AreAtMost (l.p * 3221225472) l.all
