-- What each question of this crate means, in one row.
use Rattle.dump_questions.specs.Meaning.{memory_body, memory_section, no_body, of_bodies, Meaning}
use Rattle.std.specs.Prelude.{◌++◌, ◌+◌, length, true, List, ℕ}
use Rattle.dump_sections.specs.Bodies.{body_in}
use Rattle.dump_sections.specs.Index.{index_of, sections_in, Contents}
use Rattle.dump_sections.specs.Loading.{bodies_length}
use Rattle.dump_sections.specs.Sections.{sections, Section}
use Rattle.process_table.specs.Processes.{process_table, Process}
use Rattle.process_table.specs.Records.{record_sections}
use Rattle.binary_holders.specs.declared.rows.Holding.{Holding}
use Rattle.binary_holders.specs.Usage.{fronts_length, heaps_length, holders_in, pids_of, usage_of, Usage}
use Rattle.glance_text.specs.Holders.{binaries_report, holders_report}
use Rattle.process_stacks.specs.Groups.{found_from, Found}
use Rattle.process_stacks.specs.Rows.{stack_rows, stacks_length}
use Rattle.section_rows.specs.Rows.{Row}
use Rattle.stream_commands.specs.Stacks.{stacks_report}
use Rattle.process_table.specs.Stands.{stand_rows}
use Rattle.stream_commands.specs.Waits.{waits_report, Awaiting}
use Rattle.wait_requests.specs.Waits.{targets_of, waiters_with, waits_length}
use Rattle.dump_redact.specs.Redacted.{redacted}
use Rattle.dump_redact.specs.Refusals.{heap_sections}

-- the processes of a dump, and what they hold of its binaries
pub record Held (A : Type 0) : Type 0 where
  pub index : Contents
  pub processes : List Process
  pub held : A

-- the processes of the dump with these bytes, of which this tells what they hold
abbrev pub held_by : {A : Type 0} → (List ℕ → Contents → List Process → A) → List ℕ → Held A
held_by held bytes =
    let processes = (process_table bytes).processes in
    record { index = index_of bytes; processes = processes; held = held bytes (index_of bytes) processes }

-- the use of the binaries of a dump, and the body of its first section on memory
pub record Used : Type 0 where
  pub usage : Usage
  pub memory : List ℕ

-- the use of the binaries of the dump with these bytes and this index, by these processes
abbrev pub used_in : List ℕ → Contents → List Process → Used
used_in bytes i processes = record { usage = usage_of bytes i processes; memory = body_in bytes (memory_section (sections_in i)) }

-- the report of `binaries`
abbrev pub used_report : Contents → List Process → Used → List ℕ
used_report i processes used = binaries_report i used.memory processes used.usage

-- what is loaded of the processes of a dump, and their groups by the places at which they stand
pub record Stacked : Type 0 where
  pub rows : List Row
  pub found : Found

-- the processes of the dump with these bytes, and their groups
abbrev pub stacked_in : List ℕ → Stacked
stacked_in bytes = record { rows = stack_rows bytes; found = found_from bytes (index_of bytes) (stack_rows bytes) }

-- what is asked of the processes of a dump and of their heaps
pub record HolderQuestion : Type 1 where
  -- the bodies that are read besides, before those of the processes
  pub also : List Section → List Section
  -- how many bytes it takes for the heaps of processes with these pids
  pub more : Contents → List (List ℕ) → ℕ
  -- what they hold
  pub What : Type 0
  -- what these processes hold in the dump with these bytes and this index
  pub held : List ℕ → Contents → List Process → What
  -- how that is reported
  pub show : Contents → List Process → What → List ℕ

-- a question that loads the other bodies and then the processes, and looks through their heaps for what they hold
abbrev pub of_holders : HolderQuestion → Meaning
of_holders q =
    let bodies : List Section → List Section = λ ss. q.also ss ++ record_sections ss in
    record (of_bodies bodies (held_by q.held) (λ h. q.show h.index h.processes h.held)) {
      takes = λ limits bytes. bodies_length (bodies (sections bytes)) + q.more (index_of bytes) (pids_of (process_table bytes).processes);
    }

-- which processes hold the binary with this address
abbrev pub holders_row : ℕ → Meaning
holders_row addr = of_holders (record {
  also = no_body;
  more = heaps_length;
  What = List Holding;
  held = λ bytes i processes. holders_in bytes i processes addr;
  show = holders_report;
})

-- which processes hold how much of the binaries
abbrev pub binaries_row : Meaning
binaries_row = of_holders (record {
  also = memory_body;
  more = λ i pids. fronts_length i + heaps_length i pids;
  What = Used;
  held = used_in;
  show = used_report;
})

-- which processes stand at the same place, with at most this many groups
abbrev pub stacks_row : ℕ → Meaning
stacks_row most =
    record (of_bodies record_sections stacked_in (λ s. stacks_report most s.rows s.found)) {
      takes = λ limits bytes. bodies_length (record_sections (sections bytes)) + stacks_length (index_of bytes) (stack_rows bytes);
    }

-- the processes of the dump with these bytes, where they stand, and for whom they wait
abbrev pub waits_in : List ℕ → Awaiting
waits_in bytes =
    let processes = (process_table bytes).processes in
    record {
      index = index_of bytes;
      processes = processes;
      stands = stand_rows bytes;
      waiters = waiters_with processes (targets_of bytes (index_of bytes) processes);
    }

-- who waits for whom, with at most this many targets and circles
abbrev pub waits_row : ℕ → Meaning
waits_row most =
    record (of_bodies record_sections waits_in (waits_report most)) {
      takes = λ limits bytes.
          bodies_length (record_sections (sections bytes)) + waits_length (index_of bytes) (process_table bytes).processes;
    }

-- the dump with its payloads made zero: it is copied from the whole dump
abbrev pub redact_row : Meaning
redact_row = record (of_bodies heap_sections (λ bytes. bytes) redacted) { takes = λ limits bytes. length bytes; streams = true }
