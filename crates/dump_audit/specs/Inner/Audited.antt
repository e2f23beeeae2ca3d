-- What the code keeps for an audit.
use Rattle.std.specs.Prelude.{◌≡◌, ℕ, ◌<◌, ◌^◌, Bool, true, false, ◌&&◌, ◌⊎◌, List, length, map, None, Some, All}
use Rattle.dump_sections.specs.Index.{dump_state}
use Rattle.dump_sections.specs.declared.index.State.{State}
use Rattle.process_table.specs.Processes.{Process, IsProcessIn, process_at}
use Rattle.link_graph.specs.Texts.{is_local}
use Rattle.link_graph.specs.Lists.{Links}
use Rattle.link_graph.specs.Entries.{LinkEntry}
use Rattle.link_graph.specs.Graph.{links_of, graph_of}
use Rattle.dump_audit.specs.Findings.{Audit, is_judged, process_place, names_gone, section_offset}
use Rattle.dump_audit.specs.declared.audited.Holder.{Holder}
use Rattle.dump_audit.specs.declared.audited.Partner.{Partner}
use Rattle.dump_audit.specs.declared.audited.Partner.TheVariants.{At, Gone, Passed}

-- the graph is that of the processes; which of them are judged is
-- kept, and whether those that aren't in the dump are reported
pub record IsKept (a : Audit) (links : List Links) (seen : State) (tests : List Bool) (named : Bool) : Type 0 where
  pub graph : links ≡ graph_of a.processes
  pub state : seen ≡ dump_state a.index.headers
  pub judged : tests ≡ map (is_judged a.index) a.processes
  pub gone : named ≡ names_gone a
  pub few : length a.processes < 2 ^ 32
  pub sections : All (IsProcessIn a.index) a.processes

-- the process of a holder
abbrev pub held : Audit → Holder → Process
held a holder = process_at a.processes holder.p

-- where the section of a holder's process begins
abbrev pub held_offset : Audit → Holder → ℕ
held_offset a holder = section_offset a.index (held a holder)

-- there is a process at this place, and the pid is its own
pub record IsHolder (a : Audit) (holder : Holder) : Type 0 where
  pub place : holder.p < length a.processes
  pub pid : holder.pid.now ≡ (held a holder).pid
  pub few : holder.p < 2 ^ 32

-- the process with this pid is at that place and judged; or
-- there is none, and that is reported; or nothing is reported
abbrev pub IsPartner : Audit → List ℕ → Partner → Type 0
IsPartner a pid (At q) = (process_place a.processes pid ≡ Some q) × (is_judged a.index (process_at a.processes q) ≡ true) × (q < 2 ^ 32)
IsPartner a pid Gone = (process_place a.processes pid ≡ None) × ((names_gone a && is_local pid) ≡ true)
IsPartner a pid Passed =
    ((process_place a.processes pid ≡ None) × ((names_gone a && is_local pid) ≡ false))
    ⊎ ((q : ℕ) × (process_place a.processes pid ≡ Some q) × (is_judged a.index (process_at a.processes q) ≡ false))

-- the entries of a process
abbrev pub entries_in : Process → List LinkEntry
entries_in process = (links_of process.links).entries
