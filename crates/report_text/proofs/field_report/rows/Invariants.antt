use Rattle.std.proofs.Common.{◌≡◌, ◌+◌, filter, length}
use Rattle.field_lines.specs.Lines.{text_lines}
use Rattle.report_text.specs.Tables.{has_row}
use Rattle.report_text.proofs.field_report.rows.Given as goal

-- the lines so far are counted, and those that are left are still to come
abbrev pub invariant-loop-line : goal.invariant-loop-line
invariant-loop-line l =
    (goal.iterator-loop-line).can_next l.line-iterator
    × (goal.iterator-loop-line).is_finite l.line-iterator
    × (l.rows + length (filter has_row l.line-iterator) ≡ length (filter has_row (text_lines l.body)))
