use Rattle.std.proofs.Common.{length, take, ◌-◌, ◌≡◌, ◌≤◌}
use Rattle.dump_io.specs.Sinks.{grown}
use Rattle.dump_io.proofs.sink.write_all.Given as goal

abbrev pub invariant-loop-done : goal.invariant-loop-done
invariant-loop-done g l =
    let before = g.K.Sink.state l.initial.sink in
    let after = g.K.Sink.state l.sink in
    (l.done ≤ length l.bytes)
    × (before.faults ≤ after.faults)
    × (after.written ≡ grown before.written (take l.done l.bytes))
    × (length l.bytes ≡ 0 → l.sink ≡ l.initial.sink)

abbrev pub decreases-loop-done : goal.decreases-loop-done
decreases-loop-done g l = length l.bytes - l.done
