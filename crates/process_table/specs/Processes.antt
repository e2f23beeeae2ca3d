-- The process table of a dump.
use Rattle.std.specs.Prelude.{◌≡◌, ℕ, ◌<◌, ◌≤◌, true, List, [], length, map, slice_get, Option, Some, None, All, codes, unwrap_or}
use Rattle.dump_io.specs.Limits.{usual}
use Rattle.dump_sections.specs.Bodies.{section_at, body_of}
use Rattle.dump_sections.specs.Index.{Contents, sections_in}
use Rattle.dump_sections.specs.Lookups.{is_named}
use Rattle.dump_sections.specs.Sections.{sections}
use Rattle.section_rows.specs.Rows.{Kept, IsBoundedCell, field_kept}
use Rattle.process_table.specs.Records.{PlacedSection, records, repeated, pid_of}

-- a process: the place of its section among those of the dump, from 0, its pid, and, of the
-- body of its section, the first field with each of these keys, with offsets in the file
pub record Process : Type 0 where
  pub section : ℕ
  pub pid : List ℕ
  pub state : Option Kept
  pub name : Option Kept
  pub queue : Option Kept
  pub memory : Option Kept
  pub links : Option Kept
  pub virtual_heap : Option Kept
  pub old_virtual_heap : Option Kept

-- the process of a section with this body
abbrev pub process_in : PlacedSection → List ℕ → Process
process_in (place, s) body =
    let field : List ℕ → Option Kept = field_kept s.body body in
    record {
      section = place;
      pid = pid_of s;
      state = field (codes "State");
      name = field (codes "Name");
      queue = field (codes "Message queue length");
      memory = field (codes "Memory");
      links = field (codes "Link list");
      virtual_heap = field (codes "BinVHeap");
      old_virtual_heap = field (codes "OldBinVHeap");
    }

-- the processes, and how many sections of processes were
-- passed over because an earlier section has the same pid
pub record ProcessTable : Type 0 where
  pub processes : List Process
  pub repeated : ℕ

-- the process table of the bytes of a dump
abbrev pub process_table : List ℕ → ProcessTable
process_table bytes = record {
  processes = map (λ p. process_in p (body_of bytes p.1)) (records (sections bytes));
  repeated = repeated (sections bytes);
}

-- a process without a pid and fields
abbrev pub nobody : Process
nobody = record {
  section = 0;
  pid = [];
  state = None;
  name = None;
  queue = None;
  memory = None;
  links = None;
  virtual_heap = None;
  old_virtual_heap = None;
}

-- the process at a place; past the last one, nobody
abbrev pub process_at : List Process → ℕ → Process
process_at processes p = unwrap_or (slice_get processes p) nobody

-- the process names a section of the index whose tag is `proc` and whose id is the pid
pub record IsProcessIn (index : Contents) (process : Process) : Type 0 where
  pub place : process.section < length index.headers
  pub named : is_named (codes "proc") (Some process.pid) (section_at index process.section).text ≡ true

-- the processes are those of the index, whatever their fields are
pub record AreProcessesOver (index : Contents) (table : ProcessTable) : Type 0 where
  pub sections : map (λ p. p.section) table.processes ≡ map (λ r. r.0) (records (sections_in index))
  pub pids : map (λ p. p.pid) table.processes ≡ map (λ r. pid_of r.1) (records (sections_in index))
  pub repeated : table.repeated ≡ repeated (sections_in index)
  pub named : All (IsProcessIn index) table.processes

-- the offsets of a process's fields are within the largest dump, and their texts no longer than the largest body
pub record IsBoundedProcess (p : Process) : Type 0 where
  pub state : IsBoundedCell p.state
  pub name : IsBoundedCell p.name
  pub queue : IsBoundedCell p.queue
  pub memory : IsBoundedCell p.memory
  pub links : IsBoundedCell p.links
  pub virtual_heap : IsBoundedCell p.virtual_heap
  pub old_virtual_heap : IsBoundedCell p.old_virtual_heap

-- a process table is bounded: it has no more processes than an index has sections, and each is bounded
pub record AreBoundedProcesses (table : ProcessTable) : Type 0 where
  pub count : length table.processes ≤ usual.sections
  pub fields : All IsBoundedProcess table.processes
