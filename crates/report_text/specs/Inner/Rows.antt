-- Rows in the parts in which they are written.
use Rattle.std.specs.Prelude.{ℕ, List, [], ◌++◌, Option, if◌then◌else◌}
use Rattle.field_lines.specs.Lines.{TextLine}
use Rattle.section_rows.specs.Rows.{Kept}
use Rattle.report_lines.specs.Lines.{tab}
use Rattle.report_text.specs.Tables.{cell_text, field_line, has_row}

-- what is written for a line
abbrev pub line_row : ℕ → TextLine → List ℕ
line_row base line = if has_row line then field_line base line else []

-- a cell, after the one before it
abbrev pub next_cell : Option Kept → List ℕ
next_cell cell = tab ++ (cell_text cell ++ [])
