use Rattle.std.proofs.Common.{◌≤◌, length}
use Rattle.dump_redact.proofs.blanks.last_digit_end.Given as goal

abbrev pub invariant-loop-end : goal.invariant-loop-end
invariant-loop-end l = l.end ≤ length l.chars

abbrev pub decreases-loop-end : goal.decreases-loop-end
decreases-loop-end l = l.end
