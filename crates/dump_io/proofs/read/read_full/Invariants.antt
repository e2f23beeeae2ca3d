use Rattle.std.proofs.Common.{length, take, ◌-◌, ◌≡◌, ◌≤◌}
use Rattle.dump_io.specs.Counts.{plus_capped}
use Rattle.dump_io.specs.Dumps.{Gives}
use Rattle.dump_io.proofs.read.read_full.Given as goal

abbrev pub invariant-loop-done : goal.invariant-loop-done
invariant-loop-done g l =
    let before = g.D.Dumps.state l.initial.dumps in
    let after = g.D.Dumps.state l.dumps in
    (l.done ≤ length l.into)
    × (after.files ≡ before.files)
    × (after.now ≡ before.now)
    × (before.faults ≤ after.faults)
    × (after.taken ≡ plus_capped before.taken l.done)
    × Gives before.now l.at (take l.done l.into)

abbrev pub decreases-loop-done : goal.decreases-loop-done
decreases-loop-done g l = length l.initial.into - l.done
