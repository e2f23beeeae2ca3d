use Rattle.std.proofs.Common.{◌≡◌, ◌^◌, ◌<◌, ◌≤◌, true, drop}
use Rattle.std.specs.Fmt.{digits}
use Rattle.dump_io.proofs.Digits.{text_of}
use Rattle.dump_io.proofs.hex.put_digits.Given as goal

abbrev pub invariant-loop-at : goal.invariant-loop-at
invariant-loop-at l =
    (l.at ≤ 16)
    × (l.rest < 16 ^ l.at)
    × (l.at < 16 → 0 < l.rest)
    × (text_of l.at l.rest (drop l.at l.buffer) ≡ digits 16 true l.n)

abbrev pub decreases-loop-at : goal.decreases-loop-at
decreases-loop-at l = l.at
