-- What an audit has read of its bodies.
use Rattle.std.specs.Prelude.{◌≡◌, ℕ, Bool, List, length, map, Some, None, option_map, All, IfSome, if◌then◌else◌}
use Rattle.dump_sections.specs.Index.{Contents, sections_in}
use Rattle.process_table.specs.Processes.{IsProcessIn, process_table}
use Rattle.dump_audit.specs.declared.bodies.AuditBodies.{AuditBodies}
use Rattle.dump_audit.specs.Flight.{signalled_in}
use Rattle.dump_audit.specs.Mailboxes.{mail_of, mailbox_places}

-- the process table of these bytes, in a full audit how many messages each process has, if that is known, and whether signals wait for it
pub record AreBodiesOf (full : Bool) (index : Contents) (bytes : List ℕ) (read : AuditBodies) : Type 0 where
  pub procs : read.procs ≡ process_table bytes
  pub mails : option_map (λ counts. counts.items) read.mails
      ≡ (if full then Some (map (mail_of bytes index) (mailbox_places (sections_in index))) else None)
  pub signalled : read.signalled.items ≡ signalled_in bytes

-- each process is one of the index, and if messages were counted, they were counted for each process
pub record IsAuditable (index : Contents) (read : AuditBodies) : Type 0 where
  pub sections : All (IsProcessIn index) read.procs.processes
  pub counts : IfSome read.mails (λ counts. length counts.items ≡ length read.procs.processes)
