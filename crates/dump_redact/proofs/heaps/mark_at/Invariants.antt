use Rattle.std.proofs.Common.{◌-◌, ◌≤◌, length}
use Rattle.dump_redact.specs.Inner.Places.{AreMarksFrom}
use Rattle.dump_redact.proofs.heaps.mark_at.Given as goal

abbrev pub invariant-loop-place : goal.invariant-loop-place
invariant-loop-place l = record {
  within : l.place ≤ length l.bytes;
  marks : AreMarksFrom l.place l.bytes;
}

abbrev pub decreases-loop-place : goal.decreases-loop-place
decreases-loop-place l = length l.bytes - l.place
