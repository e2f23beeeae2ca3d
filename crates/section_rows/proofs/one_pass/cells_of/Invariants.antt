use Rattle.std.specs.Prelude.{All}
use Rattle.field_lines.specs.Lines.{IsPart}
use Rattle.section_rows.specs.Inner.Lent.{shown_section}
use Rattle.section_rows.specs.Inner.Passing.{AreSettled}
use Rattle.section_rows.proofs.one_pass.cells_of.Given as goal

-- the columns have their cells, or still get them from the lines that are left
abbrev pub invariant-loop-line : goal.invariant-loop-line
invariant-loop-line l =
    (goal.iterator-loop-line).can_next l.line-iterator
    × (goal.iterator-loop-line).is_finite l.line-iterator
    × AreSettled (shown_section l.section) l.body l.columns l.line-iterator l.cells.items
    × All (IsPart l.body) l.line-iterator
