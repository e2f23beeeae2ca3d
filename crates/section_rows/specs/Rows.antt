-- What is kept of sections: a row for each, with its offset in the file and a cell for each column.
use Rattle.std.specs.Prelude.{◌≡◌, ℕ, ◌+◌, ◌≤◌, Bool, ◌||◌, List, [], length, map, slice_get, nat_eq, Option, None, Some, find, option_map, unwrap_or, IfSome, All}
use Rattle.std.specs.List.{starts_with}
use Rattle.dump_io.specs.Dumps.{Now, told}
use Rattle.dump_io.specs.Limits.{usual}
use Rattle.field_lines.specs.Fields.{find_line, place_of, value_of}
use Rattle.field_lines.specs.Lines.{TextLine, text_lines}
use Rattle.dump_sections.specs.Bodies.{body_of}
use Rattle.dump_sections.specs.Sections.{Section, tag_of, id_of}

-- a text of a section: the offsets in the file of its line and of the text itself, and the text
pub record Kept : Type 0 where
  pub at : ℕ
  pub value_at : ℕ
  pub text : List ℕ

-- a field's value with the offsets of its line and of itself in the file
abbrev pub kept : ℕ → ℕ → List ℕ → Kept
kept at value_at text = record { at = at; value_at = value_at; text = text }

-- what a column shows of a section: its tag, its id, the value of the first field
-- with this key, or the first line of its body that begins with one of these two texts
pub data Column : Type 0 where
  tag : Column
  id : Column
  field : List ℕ → Column
  starting : List ℕ → List ℕ → Column

-- the tag stands after the equals sign
abbrev pub tag_kept : Section → Kept
tag_kept s = kept s.at (s.at + 1) (tag_of s.text)

-- the id stands after the colon that follows the tag
abbrev pub id_kept : Section → Option Kept
id_kept s = option_map (kept s.at (s.at + length (tag_of s.text) + 2)) (id_of s.text)

-- the first field with this key in a body that begins at this offset of the file
abbrev pub field_kept : ℕ → List ℕ → List ℕ → Option Kept
field_kept base body key = option_map (λ line. kept (base + line.at) (base + (place_of line).from) (value_of line.text)) (find_line body key)

-- whether a line begins with one of two texts
abbrev pub begins_with : List ℕ → List ℕ → TextLine → Bool
begins_with one other line = starts_with nat_eq line.text one || starts_with nat_eq line.text other

-- a line of a body that begins at this offset of the file
abbrev pub line_kept : ℕ → TextLine → Kept
line_kept base line = kept (base + line.at) (base + line.at) line.text

-- the first line that begins with one of two texts, in a body that begins at this offset of the file
abbrev pub starting_kept : ℕ → List ℕ → List ℕ → List ℕ → Option Kept
starting_kept base body one other = option_map (line_kept base) (find (begins_with one other) (text_lines body))

-- the cell of a column, for a section with this body
abbrev pub column_cell : Section → List ℕ → Column → Option Kept
column_cell s body tag = Some (tag_kept s)
column_cell s body id = id_kept s
column_cell s body (field key) = field_kept s.body body key
column_cell s body (starting one other) = starting_kept s.body body one other

-- a row: the offset of its section, and a cell for each column
pub record Row : Type 0 where
  pub at : ℕ
  pub cells : List (Option Kept)

-- a row with these cells, of a section that begins at this offset
abbrev pub row_with : ℕ → List (Option Kept) → Row
row_with at cells = record { at = at; cells = cells }

-- the row of a section with this body
abbrev pub row_of : List Column → Section → List ℕ → Row
row_of columns s body = row_with s.at (map (column_cell s body) columns)

-- the rows of these sections of a dump
abbrev pub rows_of : List ℕ → List Column → List Section → List Row
rows_of bytes columns sections = map (λ s. row_of columns s (body_of bytes s)) sections

-- rows, and the number of columns of their table
pub record Table : Type 0 where
  pub width : ℕ
  pub rows : List Row

-- the rows of these sections: one with a cell for each column, and that of the dump's bytes, if the device tells them
pub record AreRowsOf (now : Now) (columns : List Column) (sections : List Section) (table : Table) : Type 0 where
  pub width : table.width ≡ length columns
  pub places : map (λ row. row.at) table.rows ≡ map (λ s. s.at) sections
  pub rows : (bytes : List ℕ) → now ≡ told bytes → table.rows ≡ rows_of bytes columns sections

-- the row at a place; past the last one, an empty row
abbrev pub row_at : List Row → ℕ → Row
row_at rows i = unwrap_or (slice_get rows i) (record { at = 0; cells = [] })

-- the cell of a row in the column at a place; none past the last one
abbrev pub cell_at : Row → ℕ → Option Kept
cell_at row c = unwrap_or (slice_get row.cells c) None

-- the text of a cell
abbrev pub text_in : Option Kept → Option (List ℕ)
text_in cell = option_map (λ k. k.text) cell

-- each row has a cell for each column
abbrev pub AreEven : Table → Type 0
AreEven table = All (λ row. length row.cells ≡ table.width) table.rows

-- offsets are within the largest dump, and a text is no longer than the largest body
pub record IsBoundedText (k : Kept) : Type 0 where
  pub at : k.at ≤ usual.dump
  pub value_at : k.value_at ≤ usual.dump
  pub text : length k.text ≤ usual.section

-- if there is a cell, it is within the bounds
abbrev pub IsBoundedCell : Option Kept → Type 0
IsBoundedCell cell = IfSome cell IsBoundedText

-- all cells of a table are within the bounds
abbrev pub AreBoundedCells : Table → Type 0
AreBoundedCells table = All (λ row. All IsBoundedCell row.cells) table.rows
