-- Processes that are stored as a list of their places and a table of their fields.
use Rattle.std.specs.Prelude.{◌≡◌, ℕ, ◌≤◌, List, [], ◌∷◌, length, codes}
use Rattle.dump_io.specs.Limits.{usual}
use Rattle.section_rows.specs.Rows.{Column, field, Row, Table, cell_at}
use Rattle.process_table.specs.Processes.{Process}
use Rattle.process_table.specs.declared.pids.PidOrder.{PidOrder}
use Rattle.process_table.specs.declared.pids.PidPlace.{PidPlace}
use Rattle.process_table.specs.Inner.Finding.{AreOrdered}

-- the fields of a process, in the order of the cells
abbrev pub field_columns : List Column
field_columns =
    field (codes "State") ∷ field (codes "Name") ∷ field (codes "Message queue length") ∷ field (codes "Memory") ∷ field (codes "Link list")
    ∷ field (codes "BinVHeap") ∷ field (codes "OldBinVHeap") ∷ []

-- the process from an entry and the row of its fields
abbrev pub joined : List ℕ × ℕ → Row → Process
joined entry row = record {
  section = entry.1;
  pid = entry.0;
  state = cell_at row 0;
  name = cell_at row 1;
  queue = cell_at row 2;
  memory = cell_at row 3;
  links = cell_at row 4;
  virtual_heap = cell_at row 5;
  old_virtual_heap = cell_at row 6;
}

abbrev pub all_joined : List (List ℕ × ℕ) → List Row → List Process
all_joined [] rows = []
all_joined (entry ∷ entries) [] = []
all_joined (entry ∷ entries) (row ∷ rows) = joined entry row ∷ all_joined entries rows

-- each process has a row with a cell for each field, and their pids are in order
pub record AreJoined (places : List PidPlace) (order : PidOrder) (fields : Table) : Type 0 where
  pub rows : length fields.rows ≡ length places
  pub width : fields.width ≡ 7
  pub count : length places ≤ usual.sections
  pub ordered : AreOrdered places order
