use Rattle.std.proofs.Common.{◌≡◌, map, take}
use Rattle.process_table.specs.Signals.{is_signalled}
use Rattle.process_table.proofs.signals.signalled.Given as goal

-- the rows so far have their marks
abbrev pub invariant-loop-i : goal.invariant-loop-i
invariant-loop-i l = l.marks.items ≡ map is_signalled (take l.i l.rows.rows)
