-- One field of every process.
use Rattle.std.specs.Prelude.{ℕ, List, [], ◌∷◌, codes}
use Rattle.dump_sections.specs.Sections.{sections}
use Rattle.section_rows.specs.Rows.{Column, Row, field, id, rows_of}
use Rattle.process_table.specs.Records.{record_sections, repeated}

-- what is kept of a process: its pid, its name, and its first field with this key
abbrev pub columns_with : List ℕ → List Column
columns_with key = id ∷ field (codes "Name") ∷ field key ∷ []

-- a row for each process, and how many sections of processes were
-- passed over because an earlier section has the same pid
pub record ProcessFields : Type 0 where
  pub rows : List Row
  pub repeated : ℕ

-- a row for each process of the bytes of a dump, with the fields that have this key, and how many sections were passed over
abbrev pub field_table : List ℕ → List ℕ → ProcessFields
field_table key bytes = record {
  rows = rows_of bytes (columns_with key) (record_sections (sections bytes));
  repeated = repeated (sections bytes);
}
