-- What is audited of the bytes of an accepted dump.
use Rattle.std.specs.Prelude.{ℕ, Bool, List, None, Some, if◌then◌else◌}
use Rattle.dump_sections.specs.Index.{index_of}
use Rattle.process_table.specs.Processes.{process_table}
use Rattle.dump_audit.specs.Findings.{Audit, audit_of}
use Rattle.dump_audit.specs.Mailboxes.{mails}

-- an audit with this limit on message queues, in full or not
abbrev pub audit_in : ℕ → Bool → List ℕ → Audit
audit_in limit full bytes = audit_of (index_of bytes) (process_table bytes).processes limit (if full then Some (mails bytes) else None)
