-- The bodies that an audit loads: those of the processes, and in a full audit their mailboxes.
use Rattle.std.specs.Prelude.{ℕ, Bool, List, [], ◌++◌, map, position, Option, None, Some, codes, if◌then◌else◌}
use Rattle.std.specs.List.{filter_map}
use Rattle.std.specs.Option.{option_and_then, option_map}
use Rattle.dump_io.specs.Lines.{headers}
use Rattle.dump_sections.specs.Bodies.{at_place, body_of}
use Rattle.dump_sections.specs.Index.{Contents, sections_in, dump_state}
use Rattle.dump_sections.specs.Lookups.{is_named}
use Rattle.dump_sections.specs.Sections.{Section, sections}
use Rattle.dump_sections.specs.declared.index.State.{State}
use Rattle.process_table.specs.Records.{record_sections, records, pid_of}
use Rattle.root_views.specs.Roots.{message_count}
use Rattle.dump_audit.specs.Findings.{is_cut}

-- the place of a process's mailbox, which is the first section with messages whose id is its pid
abbrev pub mailbox_place : List Section → List ℕ → Option ℕ
mailbox_place sections pid = position (λ s. is_named (codes "proc_messages") (Some pid) s.text) sections

-- the pids of the process table
abbrev pub pids_in : List Section → List (List ℕ)
pids_in sections = map (λ r. pid_of r.1) (records sections)

-- the places of the mailboxes, in the order of the processes
abbrev pub mailbox_places : List Section → List (Option ℕ)
mailbox_places sections = map (mailbox_place sections) (pids_in sections)

-- the mailboxes at these places, in their order
abbrev pub mailboxes_at : List Section → List (Option ℕ) → List Section
mailboxes_at sections places = filter_map (option_map (at_place sections)) places

-- how many messages the mailbox at a place has, unless the dump is truncated in it
abbrev pub mail_at : List ℕ → State → List Section → ℕ → Option ℕ
mail_at bytes state sections place =
    if is_cut state place then None else Some (message_count (body_of bytes (at_place sections place)))

-- how many messages a mailbox has that may be missing, unless the dump is truncated in it
abbrev pub mail_in : List ℕ → State → List Section → Option ℕ → Option ℕ
mail_in bytes state sections place = option_and_then (mail_at bytes state sections) place

-- how many messages a mailbox has that was found in an index, if that is known
abbrev pub mail_of : List ℕ → Contents → Option ℕ → Option ℕ
mail_of bytes index place = mail_in bytes (dump_state index.headers) (sections_in index) place

-- for each process of the table, how many messages it has, if that is known
abbrev pub mails : List ℕ → List (Option ℕ)
mails bytes = map (mail_in bytes (dump_state (headers bytes)) (sections bytes)) (mailbox_places (sections bytes))

-- the sections with the mailboxes, in a full audit, in the order of their processes
abbrev pub more_sections : Bool → List Section → List Section
more_sections full sections = if full then mailboxes_at sections (mailbox_places sections) else []

-- the bodies that an audit loads, in the order in which they are judged
abbrev pub audited_sections : Bool → List Section → List Section
audited_sections full sections = record_sections sections ++ more_sections full sections
