use Rattle.std.proofs.Common.{◌≡◌, ℕ, ◌<◌, ◌∷◌, List, length, get_or, None, false}
use Rattle.field_lines.specs.Lines.{TextLine}
use Rattle.field_lines.specs.Shown.{shown_line}
use Rattle.section_rows.specs.declared.columns.Column.TheVariants.{Tag}
use Rattle.section_rows.specs.Shown.{shown_cell, shown_column}
use Rattle.section_rows.specs.Inner.Lent.{shown_section}
use Rattle.section_rows.specs.Inner.Passing.{AreSettled, IsOver}
use Rattle.section_rows.proofs.Passing.{AreHalfway}
use Rattle.section_rows.proofs.one_pass.take_line.Given as goal

-- the columns so far have looked at the line
abbrev pub invariant-loop-c : goal.invariant-loop-c
invariant-loop-c l = record {
  count : length l.cells ≡ length l.columns;
  settles : (body : List ℕ) (rest : List TextLine) → AreSettled (shown_section l.section) body l.columns (shown_line l.line ∷ rest) l.initial.cells
      → AreHalfway (shown_section l.section) body l.columns (shown_line l.line) rest l.c l.cells;
  over : l.more ≡ false → (k : ℕ) → k < l.c → IsOver (shown_column (get_or l.columns k Tag)) (shown_cell (get_or l.cells k None));
}
