-- What contracts see of the values of the code.
use Rattle.std.specs.Prelude.{Option, option_map}
use Rattle.section_rows.specs.declared.columns.Kept.{Kept as LentKept}
use Rattle.section_rows.specs.declared.columns.Column.{Column as LentColumn}
use Rattle.section_rows.specs.declared.columns.Column.TheVariants.{Tag, Id, Field, Starting}
use Rattle.section_rows.specs.Rows.{Kept, kept, Column, tag, id, field, starting}

-- a kept text whose bytes are borrowed
abbrev pub shown_kept : LentKept → Kept
shown_kept k = kept k.at k.value_at k.text.now

-- a cell whose text is borrowed
abbrev pub shown_cell : Option LentKept → Option Kept
shown_cell cell = option_map shown_kept cell

-- a column whose key is borrowed
abbrev pub shown_column : LentColumn → Column
shown_column Tag = tag
shown_column Id = id
shown_column (Field key) = field key.now
shown_column (Starting one other) = starting one.now other.now
