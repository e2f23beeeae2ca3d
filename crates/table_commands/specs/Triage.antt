-- What `triage` reports.
use Rattle.std.specs.Prelude.{ℕ, List}
use Rattle.dump_sections.specs.Index.{Contents}
use Rattle.section_rows.specs.Rows.{Row, Table}
use Rattle.process_table.specs.Processes.{ProcessTable}
use Rattle.dump_triage.specs.Triage.{triage_of}
use Rattle.glance_text.specs.Triage.{triage_report}

-- what the report of `triage` is on: the index, the body of the first section and that of the
-- first one on memory, the processes and where they stand, the ETS tables, and what the ports are
pub record Told : Type 0 where
  pub index : Contents
  pub first : List ℕ
  pub memory : List ℕ
  pub procs : ProcessTable
  pub stands : List Row
  pub tables : Table
  pub ports : Table

-- the report of `triage`, with at most this many rows by each measure
abbrev pub triage_over : ℕ → Told → List ℕ
triage_over most told =
    let tables = told.tables.rows in
    let ports = told.ports.rows in
    let found = triage_of told.index told.procs.processes told.stands tables ports most in
    triage_report told.index told.first told.memory told.procs told.stands tables ports found
