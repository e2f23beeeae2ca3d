use Rattle.std.proofs.Common.{◌≡◌, take}
use Rattle.message_shapes.specs.Inner.Telling.{told_cells}
use Rattle.message_shapes.proofs.mail_cells.subject_cells.Given as goal

-- the cells to which the messages so far refer
abbrev pub invariant-loop-i : goal.invariant-loop-i
invariant-loop-i l = l.cells.items ≡ told_cells (take l.i l.heard)
