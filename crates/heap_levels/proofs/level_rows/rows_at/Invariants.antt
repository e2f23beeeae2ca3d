use Rattle.std.proofs.Common.{◌≡◌, take}
use Rattle.part_weights.specs.Held.{rows_at}
use Rattle.heap_levels.proofs.level_rows.rows_at.Given as goal

-- the rows of the parts so far
abbrev pub invariant-loop-i : goal.invariant-loop-i
invariant-loop-i l = l.rows ≡ rows_at l.skeleton l.parts.parts (take l.i l.held)
