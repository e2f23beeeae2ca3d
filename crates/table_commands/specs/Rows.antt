-- What each question of this crate means, in one row.
use Rattle.dump_questions.specs.Tasks.{alone, Task}
use Rattle.dump_write.specs.Made.{made}
use Rattle.dump_trial.specs.Tallies.{trial_report}
use Rattle.dump_trial.specs.Trial.{trial_of}
use Rattle.dump_questions.specs.Meaning.{first_body, first_section, memory_body, memory_section, no_body, process_section, Part}
use Rattle.dump_questions.specs.Meaning.{of_bodies, of_section, of_subject, Meaning}
use Rattle.table_commands.specs.Triage.{triage_over, Told}
use Rattle.std.specs.Prelude.{◌++◌, Bool, List, Some, ℕ}
use Rattle.dump_sections.specs.Bodies.{body_in, body_of}
use Rattle.dump_sections.specs.Index.{index_of, Contents}
use Rattle.dump_sections.specs.Sections.{sections, Section}
use Rattle.dump_sections.specs.Tags.{tag_counts, tags_in}
use Rattle.dump_sections.specs.Versions.{first_id}
use Rattle.report_text.specs.declared.refusals.Refusal.TheVariants.{NoProcess}
use Rattle.report_text.specs.Links.{links_report}
use Rattle.report_text.specs.Reports.{index_report, info_report}
use Rattle.report_text.specs.Tables.{fields_report, procs_report, rows_report, section_fields_report, values_report}
use Rattle.process_table.specs.Fields.{field_table}
use Rattle.process_table.specs.Processes.{process_table}
use Rattle.process_table.specs.Records.{record_sections}
use Rattle.table_sections.specs.Fields.{section_fields, tagged}
use Rattle.process_table.specs.Stands.{stand_rows}
use Rattle.table_sections.specs.declared.kinds.TableKind.{TableKind}
use Rattle.table_sections.specs.declared.kinds.TableKind.TheVariants.{Ets, PortUses}
use Rattle.table_sections.specs.Tables.{listed, table_of}
use Rattle.dump_audit.specs.Audits.{audit_in}
use Rattle.dump_audit.specs.Mailboxes.{audited_sections}
use Rattle.table_commands.specs.Findings.{audit_report, settled_findings, settled_report, SettledAudit}
use Rattle.dump_audit.specs.Findings.{findings, Audit}
use Rattle.dump_audit.specs.Flight.{signalled_in}
use Rattle.json_report.specs.Trees.{audit_tree, json_text}

-- the first section, the first one on memory, those of the processes, those of the ETS tables and those of the ports
abbrev pub triage_sections : List Section → List Section
triage_sections sections =
    first_body sections ++ (memory_body sections ++ (record_sections sections ++ (listed Ets sections ++ listed PortUses sections)))

-- the report on the fields of a section
abbrev pub fields_of : Part → List ℕ
fields_of part = fields_report part.base part.bytes

-- what `info` tells of a dump: its version, its index, and the body of the first section
pub record Overview : Type 0 where
  pub version : List ℕ
  pub index : Contents
  pub first : List ℕ

-- what `info` tells of the dump with these bytes
abbrev pub overview_of : List ℕ → Overview
overview_of bytes = record { version = first_id bytes; index = index_of bytes; first = body_of bytes (first_section (sections bytes)) }

-- the report of `info`
abbrev pub info_of : Overview → List ℕ
info_of o = info_report o.version o.index.headers o.index.size (tag_counts (tags_in o.index)) o.first

-- what `triage` tells of the dump with these bytes
abbrev pub told_in : List ℕ → Told
told_in bytes = record {
  index = index_of bytes;
  first = body_of bytes (first_section (sections bytes));
  memory = body_in bytes (memory_section (sections bytes));
  procs = process_table bytes;
  stands = stand_rows bytes;
  tables = table_of Ets bytes;
  ports = table_of PortUses bytes;
}

-- an audit with this limit on message queues, in full or not, that is shown in this way
abbrev pub of_audit : ℕ → Bool → (Audit → List ℕ) → Meaning
of_audit limit full show = record (of_bodies (audited_sections full) (audit_in limit full) show) { found = Some findings }

-- the sections of a dump and its state
abbrev pub index_row : Meaning
index_row = of_bodies no_body index_of (λ i. index_report i.headers i.size)

-- the version, size, counts, slogan, tags and state of a dump
abbrev pub info_row : Meaning
info_row = of_bodies first_body overview_of info_of

-- the process table of a dump
abbrev pub procs_row : Meaning
procs_row = of_bodies record_sections process_table procs_report

-- the fields of the process with this pid
abbrev pub proc_row : List ℕ → Meaning
proc_row pid = of_subject (process_section pid) (NoProcess pid) fields_of

-- the fields of the first section on memory
abbrev pub memory_row : Meaning
memory_row = of_section memory_section fields_of

-- the field with this key of every process
abbrev pub field_row : List ℕ → Meaning
field_row key = of_bodies record_sections (field_table key) values_report

-- the field with this key of every section with this tag
abbrev pub fields_row : List ℕ → List ℕ → Meaning
fields_row tag key = of_bodies (tagged tag) (section_fields tag key) section_fields_report

-- a table other than that of the processes
abbrev pub table_row : TableKind → Meaning
table_row kind = of_bodies (listed kind) (table_of kind) rows_report

-- what to read first of a dump, with at most this many rows of each table
abbrev pub triage_row : ℕ → Meaning
triage_row most = of_bodies triage_sections told_in (triage_over most)

-- the links and monitors of all processes
abbrev pub links_row : Meaning
links_row = of_bodies record_sections process_table (λ table. links_report table.processes)

-- the lines of an audit with this limit on message queues, in full or not
abbrev pub audit_row : ℕ → Bool → Meaning
audit_row limit full = of_audit limit full audit_report

-- what an audit of the dump with these bytes is on, with the signals that wait in it
abbrev pub settled_in : ℕ → Bool → List ℕ → SettledAudit
settled_in limit full bytes = record { audit = audit_in limit full bytes; signalled = signalled_in bytes }

-- the lines of an audit with this limit on message queues, in full or not, without the findings that are in flight
abbrev pub audit_settled_row : ℕ → Bool → Meaning
audit_settled_row limit full =
    record (of_bodies (audited_sections full) (settled_in limit full) settled_report) { found = Some settled_findings }

-- an audit with this limit on message queues, in full or not, as one JSON text
abbrev pub audit_json_row : ℕ → Bool → Meaning
audit_json_row limit full = of_audit limit full (λ audit. json_text (audit_tree audit))

-- ---- the commands without a file

-- a dump made from a seed and a count of processes
abbrev pub make_task : ℕ → ℕ → Task
make_task seed count = alone (made seed count)

-- a summary of the reports on a made dump
abbrev pub trial_task : ℕ → ℕ → Task
trial_task seed count = alone (trial_report (trial_of seed count))
