use Rattle.std.proofs.Common.{◌≡◌, take}
use Rattle.heap_levels.specs.Inner.Plain.{rows_labelled}
use Rattle.heap_levels.proofs.level_rows.rows_labelled.Given as goal

-- the rows so far
abbrev pub invariant-loop-i : goal.invariant-loop-i
invariant-loop-i l = l.labelled ≡ rows_labelled l.labels l.from (take l.i l.rows)
