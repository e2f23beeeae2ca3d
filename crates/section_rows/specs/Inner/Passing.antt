-- A pass over the lines of a body, from which the fields of a section get their cells.
use Rattle.std.specs.Prelude.{◌≡◌, ℕ, ◌+◌, ◌<◌, List, length, get_or, Option, None, Some, find, option_map, if◌then◌else◌}
use Rattle.std.specs.Option.{option_or}
use Rattle.field_lines.specs.Lines.{TextLine}
use Rattle.field_lines.specs.Fields.{has_key, place_of, value_of}
use Rattle.dump_sections.specs.Sections.{Section}
use Rattle.section_rows.specs.declared.columns.Kept.{Kept as LentKept}
use Rattle.section_rows.specs.declared.columns.Column.{Column as LentColumn}
use Rattle.section_rows.specs.declared.columns.Column.TheVariants.{Tag}
use Rattle.section_rows.specs.Rows.{Kept, kept, Column, tag, id, field, starting, begins_with, line_kept, tag_kept, id_kept, column_cell}
use Rattle.section_rows.specs.Shown.{shown_cell, shown_column}
use Rattle.section_rows.specs.Inner.Places.{HasRoom}

-- the cell of a column that shows the header
abbrev pub own_cell : Section → Column → Option Kept
own_cell s tag = Some (tag_kept s)
own_cell s id = id_kept s
own_cell s (field key) = None
own_cell s (starting one other) = None

-- the field in a line of the body that begins at this offset
abbrev pub kept_in : ℕ → TextLine → Kept
kept_in base line = kept (base + line.at) (base + (place_of line).from) (value_of line.text)

-- the field of this key that a line holds, if it has the key
abbrev pub field_cell : ℕ → TextLine → List ℕ → Option Kept
field_cell base line key = if has_key key line then Some (kept_in base line) else None

-- the line, if it begins with one of two texts
abbrev pub starting_cell : ℕ → TextLine → List ℕ → List ℕ → Option Kept
starting_cell base line one other = if begins_with one other line then Some (line_kept base line) else None

-- the cell that a line gives to a column
abbrev pub line_cell : ℕ → TextLine → Column → Option Kept
line_cell base line tag = None
line_cell base line id = None
line_cell base line (field key) = field_cell base line key
line_cell base line (starting one other) = starting_cell base line one other

-- the cell that the first of these lines with its key gives to a column
abbrev pub later_cell : ℕ → List TextLine → Column → Option Kept
later_cell base lines tag = None
later_cell base lines id = None
later_cell base lines (field key) = option_map (kept_in base) (find (has_key key) lines)
later_cell base lines (starting one other) = option_map (line_kept base) (find (begins_with one other) lines)

-- the cell is that of the column, or is still to come from the lines that are left
pub record IsSettled (s : Section) (body : List ℕ) (column : Column) (left : List TextLine) (cell : Option Kept) : Type 0 where
  pub value : column_cell s body column ≡ option_or cell (later_cell s.body left column)
  pub room : HasRoom s.at cell

-- each cell is that of its column, or is still to come from the lines that are left
pub record AreSettled (s : Section) (body : List ℕ) (columns : List LentColumn) (left : List TextLine) (cells : List (Option LentKept)) : Type 0 where
  pub count : length cells ≡ length columns
  pub each : (k : ℕ) → k < length columns → IsSettled s body (shown_column (get_or columns k Tag)) left (shown_cell (get_or cells k None))

-- no line gives the column another cell
pub record IsOver (column : Column) (cell : Option Kept) : Type 0 where
  pub stays : (base : ℕ) (left : List TextLine) → option_or cell (later_cell base left column) ≡ cell

abbrev pub AreOver : List LentColumn → List (Option LentKept) → Type 0
AreOver columns cells = (k : ℕ) → k < length columns → IsOver (shown_column (get_or columns k Tag)) (shown_cell (get_or cells k None))
