-- From what the reports are written, and what is known of it.
use Rattle.dump_questions.specs.Meaning.{memory_body, memory_section}
use Rattle.stream_commands.specs.Rows.{Held, Used}
use Rattle.std.specs.Prelude.{◌++◌, ◌≡◌, length, All, List, ℕ}
use Rattle.dump_sections.specs.Index.{sections_in, Contents}
use Rattle.dump_sections.specs.Sections.{sections, Section}
use Rattle.process_table.specs.Processes.{process_table, AreProcessesOver, IsProcessIn, ProcessTable}
use Rattle.process_table.specs.Records.{record_sections}
use Rattle.binary_holders.specs.Usage.{shown_use, NamesProcess}
use Rattle.binary_holders.specs.declared.rows.Holding.{Holding}
use Rattle.dump_io.specs.Dumps.{told, Now}
use Rattle.dump_sections.specs.Bodies.{IsBodyIn}
use Rattle.stream_commands.specs.declared.binaries.Node.{Node}
use Rattle.stream_commands.specs.declared.binaries.NodeAndUses.{NodeAndUses}

-- the processes of a dump, and what was found that they hold
abbrev pub seen_held : {A : Type 0} → Contents → ProcessTable → A → Held A
seen_held index procs held = record { index = index; processes = procs.processes; held = held }

-- the sections that `binaries` reads before it looks through the heaps
abbrev pub node_sections : List Section → List Section
node_sections sections = memory_body sections ++ record_sections sections

-- what `binaries` has read of these sections is of what is open
pub record HoldsNode (index : Contents) (now : Now) (node : Node) : Type 0 where
  pub memory : IsBodyIn now (memory_section (sections_in index)) node.memory.bytes.items
  pub table : (bytes : List ℕ) → now ≡ told bytes → node.procs ≡ process_table bytes
  pub over : AreProcessesOver index node.procs

-- the processes of a dump, and what was found of the use of its binaries
abbrev pub seen_use : Contents → NodeAndUses → Held Used
seen_use index loaded =
    seen_held index loaded.node.procs (record { usage = shown_use loaded.found; memory = loaded.node.memory.bytes.items })

-- each process is one of the index, and each holding is that of a process
pub record AreNamed (index : Contents) (table : ProcessTable) (held : List Holding) : Type 0 where
  pub sections : All (IsProcessIn index) table.processes
  pub holders : All (NamesProcess (length table.processes)) held
