-- Where the processes of a dump stand: what is kept of a record beside its process.
use Rattle.std.specs.Prelude.{ℕ, List, [], ◌∷◌, codes, Option}
use Rattle.std.specs.Option.{option_or}
use Rattle.dump_sections.specs.Sections.{sections}
use Rattle.section_rows.specs.Rows.{Column, field, Row, rows_of, cell_at, text_in}
use Rattle.process_table.specs.Records.{record_sections}

-- the columns of a row: its internal state, its current call, its program counter, and as what it was spawned
abbrev pub stand_columns : List Column
stand_columns = field (codes "Internal State") ∷ field (codes "Current call") ∷ field (codes "Program counter") ∷ field (codes "Spawned as") ∷ []

-- the rows of the records of a dump, in dump order
abbrev pub stand_rows : List ℕ → List Row
stand_rows bytes = rows_of bytes stand_columns (record_sections (sections bytes))

-- where a process stands: its current call; without one its program counter, at
-- which a hibernated process has no function
abbrev pub where_in : Row → Option (List ℕ)
where_in row = option_or (text_in (cell_at row 1)) (text_in (cell_at row 2))

-- as what a process was spawned
abbrev pub spawned_in : Row → Option (List ℕ)
spawned_in row = text_in (cell_at row 3)
