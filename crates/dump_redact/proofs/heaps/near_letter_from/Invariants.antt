use Rattle.std.proofs.Common.{◌≤◌}
use Rattle.dump_redact.specs.Inner.Places.{AreMarksFrom}
use Rattle.dump_redact.proofs.heaps.near_letter_from.Given as goal

abbrev pub invariant-loop-place : goal.invariant-loop-place
invariant-loop-place l = record {
  low : l.at ≤ l.place;
  marks : AreMarksFrom l.at l.bytes → AreMarksFrom l.place l.bytes;
}
