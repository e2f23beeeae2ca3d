use Rattle.std.proofs.Common.{◌≡◌, ℕ, ◌<◌, List, length, get_or, None}
use Rattle.field_lines.specs.Lines.{text_lines}
use Rattle.section_rows.specs.declared.columns.Column.TheVariants.{Tag}
use Rattle.section_rows.specs.Shown.{shown_cell, shown_column}
use Rattle.section_rows.specs.Inner.Lent.{shown_section}
use Rattle.section_rows.specs.Inner.Passing.{IsSettled}
use Rattle.section_rows.proofs.one_pass.own_cells.Given as goal

-- the columns so far have their own cells
abbrev pub invariant-loop-column : goal.invariant-loop-column
invariant-loop-column l = record {
  count : length l.cells.items ≡ l.column-index;
  own : (body : List ℕ) (k : ℕ) → k < l.column-index
      → IsSettled (shown_section l.section) body (shown_column (get_or l.columns k Tag)) (text_lines body) (shown_cell (get_or l.cells.items k None));
}
