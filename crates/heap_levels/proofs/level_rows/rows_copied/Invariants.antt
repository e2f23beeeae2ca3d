use Rattle.std.proofs.Common.{◌≡◌, take}
use Rattle.heap_levels.proofs.level_rows.rows_copied.Given as goal

-- the rows so far
abbrev pub invariant-loop-i : goal.invariant-loop-i
invariant-loop-i l = l.copied ≡ take l.i l.rows
