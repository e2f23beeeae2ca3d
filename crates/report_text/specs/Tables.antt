-- The texts of the reports on the process table, the fields of
-- a section, and the other tables. Offsets are of the file.
use Rattle.std.specs.Prelude.{ℕ, ◌+◌, Bool, List, [], ◌∷◌, ◌++◌, length, filter, map, decimal, codes, Option, nat_lt, if◌then◌else◌}
use Rattle.std.specs.List.{flat_map}
use Rattle.dump_io.specs.Colons.{has_colon}
use Rattle.field_lines.specs.Fields.{key_of, value_of}
use Rattle.field_lines.specs.Lines.{TextLine, text_lines}
use Rattle.dump_sections.specs.Bodies.{section_at}
use Rattle.dump_sections.specs.Index.{Contents}
use Rattle.process_table.specs.Fields.{ProcessFields}
use Rattle.process_table.specs.Processes.{Process, ProcessTable}
use Rattle.section_rows.specs.Rows.{Kept, Row, Table, cell_at, text_in}
use Rattle.report_lines.specs.Lines.{line_of, word_space, tab, text_or_dash, total_line}

-- the text of a cell, or `-` if there is none
abbrev pub cell_text : Option Kept → List ℕ
cell_text cell = text_or_dash (text_in cell)

-- the line of a process: its pid, its state, its name, the length of its message queue, and its memory
abbrev pub process_line : Process → List ℕ
process_line p = line_of tab (p.pid ∷ cell_text p.state ∷ cell_text p.name ∷ cell_text p.queue ∷ cell_text p.memory ∷ [])

-- the end of a line on a process: its pid, its name, and where the header of its section begins
abbrev pub process_end : Contents → Process → List (List ℕ)
process_end index p = p.pid ∷ cell_text p.name ∷ decimal (section_at index p.section).at ∷ []

-- the last line: how many processes there are, and how many sections were passed over
abbrev pub processes_line : ℕ → ℕ → List ℕ
processes_line count repeated = line_of word_space (codes "processes" ∷ decimal count ∷ codes "repeated" ∷ decimal repeated ∷ [])

-- the report of `procs`
abbrev pub procs_report : ProcessTable → List ℕ
procs_report table = flat_map process_line table.processes ++ processes_line (length table.processes) table.repeated

-- the line of a process on one of its fields: its pid, its name,
-- where the header of its section begins, and the field's value
abbrev pub value_line : Row → List ℕ
value_line row = line_of tab (cell_text (cell_at row 0) ∷ cell_text (cell_at row 1) ∷ decimal row.at ∷ cell_text (cell_at row 2) ∷ [])

-- the report of `field`
abbrev pub values_report : ProcessFields → List ℕ
values_report table = flat_map value_line table.rows ++ processes_line (length table.rows) table.repeated

-- the line of a section on one of its fields: its id, where its header begins, and the field's value
abbrev pub section_field_line : Row → List ℕ
section_field_line row = line_of tab (cell_text (cell_at row 0) ∷ decimal row.at ∷ cell_text (cell_at row 1) ∷ [])

-- the report of `fields`
abbrev pub section_fields_report : List Row → List ℕ
section_fields_report rows = flat_map section_field_line rows ++ total_line (codes "sections") (length rows)

-- the key and the value of a field line, or `-` and the text of a plain line
abbrev pub columns : List ℕ → List (List ℕ)
columns text = if has_colon text then key_of text ∷ value_of text ∷ [] else codes "-" ∷ text ∷ []

-- the row of a line of a body that begins at this offset
abbrev pub field_line : ℕ → TextLine → List ℕ
field_line base line = line_of tab (decimal (base + line.at) ∷ columns line.text)

-- a line has a row if its text isn't empty
abbrev pub has_row : TextLine → Bool
has_row line = nat_lt 0 (length line.text)

-- the report of the fields of a body that begins at this offset
abbrev pub fields_report : ℕ → List ℕ → List ℕ
fields_report base body =
    let rows = filter has_row (text_lines body) in flat_map (field_line base) rows ++ total_line (codes "rows") (length rows)

-- the line of a row: the offset of its section, and its cells
abbrev pub row_line : Row → List ℕ
row_line row = line_of tab (decimal row.at ∷ map cell_text row.cells)

-- the report of a table
abbrev pub rows_report : Table → List ℕ
rows_report table = flat_map row_line table.rows ++ total_line (codes "rows") (length table.rows)
