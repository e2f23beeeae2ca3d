-- From what the reports are written, and what is known of it.
use Rattle.table_commands.specs.declared.audit.AuditForm.TheVariants as forms
use Rattle.dump_questions.specs.Meaning.{memory_section, Meaning}
use Rattle.table_commands.specs.Rows.{audit_json_row, audit_row, audit_settled_row, Overview}
use Rattle.table_commands.specs.Triage.{Told}
use Rattle.std.specs.Prelude.{◌++◌, ◌<◌, ◌≡◌, length, All, Bool, IfSome, List, Some, ℕ}
use Rattle.dump_sections.specs.Index.{sections_in, Contents}
use Rattle.process_table.specs.Processes.{process_table, IsProcessIn}
use Rattle.table_sections.specs.declared.kinds.TableKind.TheVariants.{Ets, PortUses}
use Rattle.table_sections.specs.Tables.{listed, table_of, AreListed, IsTableOver}
use Rattle.dump_audit.specs.Findings.{audit_of, Audit}
use Rattle.std.specs.Option.{option_map, option_to_list}
use Rattle.report_text.specs.Reports.{version_text}
use Rattle.dump_audit.specs.declared.bodies.AuditBodies.{AuditBodies}
use Rattle.dump_sections.specs.Bodies.{body_in, section_in}
use Rattle.dump_sections.specs.Sections.{Section}
use Rattle.process_table.specs.Records.{proc_places, record_sections}
use Rattle.process_table.specs.Stands.{stand_rows}
use Rattle.dump_questions.specs.declared.subjects.Body.{Body}
use Rattle.table_commands.specs.declared.audit.AuditForm.{AuditForm}
use Rattle.table_commands.specs.declared.triage.Places.{Places}
use Rattle.table_commands.specs.declared.triage.NodeTables.{NodeTables}

-- what `info` tells of a dump, by the index and the first body
abbrev pub seen_overview : Contents → Body → Overview
seen_overview index body = record { version = version_text index.version; index = index; first = body.bytes.items }

-- what an audit is of, by the index and what was loaded
abbrev pub loaded_audit : ℕ → Contents → AuditBodies → Audit
loaded_audit limit index loaded = audit_of index loaded.procs.processes limit (option_map (λ counts. counts.items) loaded.mails)

-- the row of an audit that is told in this form
abbrev pub audit_row_as : AuditForm → ℕ → Bool → Meaning
audit_row_as forms.Lines limit full = audit_row limit full
audit_row_as forms.Json limit full = audit_json_row limit full
audit_row_as forms.Settled limit full = audit_settled_row limit full

-- what an audit in this form shows, by the index and what was loaded
abbrev pub seen_audit : (form : AuditForm) (limit : ℕ) (full : Bool) → Contents → AuditBodies → (audit_row_as form limit full).What
seen_audit forms.Lines limit full index loaded = loaded_audit limit index loaded
seen_audit forms.Json limit full index loaded = loaded_audit limit index loaded
seen_audit forms.Settled limit full index loaded = record { audit = loaded_audit limit index loaded; signalled = loaded.signalled.items }

-- what `triage` tells of a dump, by the index and what was loaded
abbrev pub seen_triage : Contents → NodeTables → Told
seen_triage index loaded = record {
  index = index;
  first = loaded.first.bytes.items;
  memory = loaded.memory.bytes.items;
  procs = loaded.procs;
  stands = loaded.stands;
  tables = loaded.tables;
  ports = loaded.ports;
}

-- these places are those of the sections that `triage` loads after the first one
pub record AreFound (index : Contents) (places : Places) : Type 0 where
  pub memory : section_in index places.memory ≡ memory_section (sections_in index)
  pub within : IfSome places.memory (λ i. i < length index.headers)
  pub procs : places.procs ≡ proc_places (sections_in index)
  pub kind : places.tables.kind ≡ Ets
  pub tables : AreListed index places.tables
  pub ports_kind : places.ports.kind ≡ PortUses
  pub ports : AreListed index places.ports

-- the sections of a triage by these places
abbrev pub sections_found : Contents → Places → List Section
sections_found index places =
    let ss = sections_in index in
    option_to_list (section_in index (Some 0)) ++ (option_to_list (section_in index places.memory)
    ++ (record_sections ss ++ (listed places.tables.kind ss ++ listed places.ports.kind ss)))

-- what `triage` has read is what these bytes have
pub record AreTablesOf (index : Contents) (bytes : List ℕ) (loaded : NodeTables) : Type 0 where
  pub first : loaded.first.bytes.items ≡ body_in bytes (section_in index (Some 0))
  pub memory : loaded.memory.bytes.items ≡ body_in bytes (memory_section (sections_in index))
  pub procs : loaded.procs ≡ process_table bytes
  pub stands : loaded.stands ≡ stand_rows bytes
  pub tables : loaded.tables ≡ table_of Ets bytes
  pub ports : loaded.ports ≡ table_of PortUses bytes

-- each process and each table that `triage` has read is one of the index
pub record Fits (index : Contents) (loaded : NodeTables) : Type 0 where
  pub sections : All (IsProcessIn index) loaded.procs.processes
  pub stands : length loaded.stands ≡ length loaded.procs.processes
  pub tables : IsTableOver Ets index loaded.tables
  pub ports : IsTableOver PortUses index loaded.ports
