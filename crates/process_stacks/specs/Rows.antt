-- What is loaded of the processes of a dump: a row for each record of the process table.
use Rattle.std.specs.Prelude.{ℕ, List, [], ◌∷◌, Option, codes, unwrap_or}
use Rattle.std.specs.List.{sum_by}
use Rattle.std.specs.Option.{option_and_then}
use Rattle.dump_io.specs.Numbers.{dec_number}
use Rattle.dump_sections.specs.Bodies.{body_size}
use Rattle.dump_sections.specs.Index.{Contents, sections_in}
use Rattle.dump_sections.specs.Sections.{Section, sections}
use Rattle.process_table.specs.Records.{record_sections}
use Rattle.root_views.specs.Sections.{root_section}
use Rattle.root_views.specs.declared.kinds.RootKind.TheVariants.{Stack}
use Rattle.section_rows.specs.Rows.{Column, id, field, Row, rows_of, cell_at, text_in}

-- the columns of a row: the pid, and four fields
abbrev pub stack_columns : List Column
stack_columns = id ∷ field (codes "Name") ∷ field (codes "Memory") ∷ field (codes "Program counter") ∷ field (codes "Current call") ∷ []

-- the rows of the records of a dump, in dump order
abbrev pub stack_rows : List ℕ → List Row
stack_rows dump = rows_of dump stack_columns (record_sections (sections dump))

-- the pid of a row
abbrev pub pid_in : Row → List ℕ
pid_in row = unwrap_or (text_in (cell_at row 0)) []

-- the name
abbrev pub name_in : Row → Option (List ℕ)
name_in row = text_in (cell_at row 1)

-- the memory, or 0 where it isn't a decimal number below 2^64
abbrev pub memory_in : Row → ℕ
memory_in row = unwrap_or (option_and_then dec_number (text_in (cell_at row 2))) 0

-- the program counter
abbrev pub counter_in : Row → Option (List ℕ)
counter_in row = text_in (cell_at row 3)

-- the current call
abbrev pub call_in : Row → Option (List ℕ)
call_in row = text_in (cell_at row 4)

-- the stack of the process of a row: the first section with a stack whose id is the pid
abbrev pub stack_section : Contents → Row → Option Section
stack_section index row = root_section Stack (pid_in row) (sections_in index)

-- how many bytes the stacks of these rows have together
abbrev pub stacks_length : Contents → List Row → ℕ
stacks_length index rows = sum_by (λ row. body_size (stack_section index row)) rows
