-- What a trial reports on a made dump: how much there is in it, and what is bad or one-sided.
use Rattle.std.specs.Prelude.{ℕ, ◌++◌, List, length, None}
use Rattle.std.specs.List.{sum_by}
use Rattle.dump_sections.specs.Bodies.{body_in}
use Rattle.dump_sections.specs.Index.{index_of}
use Rattle.dump_sections.specs.Sections.{sections}
use Rattle.process_table.specs.Processes.{Process, process_table}
use Rattle.heap_cells.specs.Cells.{Cell}
use Rattle.heap_cells.specs.DumpHeaps.{heap_map}
use Rattle.root_views.specs.Roots.{BodyRoot}
use Rattle.dump_audit.specs.Findings.{audit_of, findings}
use Rattle.dump_write.specs.Made.{made}
use Rattle.root_views.specs.declared.kinds.RootKind.{RootKind}
use Rattle.root_views.specs.declared.kinds.RootKind.TheVariants.{Stack, Dict, Mail}
use Rattle.dump_trial.specs.declared.tally.Tally.{Tally}
use Rattle.dump_trial.specs.declared.summary.Summary.{Summary}
use Rattle.root_views.specs.Kinds.{roots_in}
use Rattle.root_views.specs.Sections.{root_section}
use Rattle.dump_trial.specs.Tallies.{bad_roots}

-- a root is judged by its first 1,000 nodes
abbrev pub judged_nodes : ℕ
judged_nodes = 1000

-- a message queue is reported if its length is above 8
abbrev pub queue_limit : ℕ
queue_limit = 8

-- ---- the roots of a process

-- the body with roots of this kind of a pid; a missing section counts as empty
abbrev pub root_body : List ℕ → RootKind → List ℕ → List ℕ
root_body bytes kind pid = body_in bytes (root_section kind pid (sections bytes))

-- the roots of a pid: those of its stack, of its dictionary and of its mailbox
abbrev pub process_roots : List ℕ → List ℕ → List BodyRoot
process_roots bytes pid =
    roots_in Stack (root_body bytes Stack pid)
    ++ (roots_in Dict (root_body bytes Dict pid) ++ roots_in Mail (root_body bytes Mail pid))

-- how many of these roots there are, and how many are bad over these cells
abbrev pub tally_in : List Cell → List BodyRoot → Tally
tally_in cells roots = record { roots = length roots; bad = bad_roots cells judged_nodes roots }

-- how many roots a pid has, and how many of them are bad over the cells of its heap
abbrev pub process_tally : List ℕ → List ℕ → Tally
process_tally bytes pid = tally_in (heap_map pid bytes).cells (process_roots bytes pid)

-- the sums over these processes
abbrev pub tally_of : List ℕ → List Process → Tally
tally_of bytes processes = record {
  roots = sum_by (λ process. (process_tally bytes process.pid).roots) processes;
  bad = sum_by (λ process. (process_tally bytes process.pid).bad) processes;
}

-- ---- the whole

-- what a trial reports on the bytes of a dump
abbrev pub summary_of : List ℕ → Summary
summary_of bytes =
    let processes = (process_table bytes).processes in
    record {
      sections = length (sections bytes);
      processes = length processes;
      tally = tally_of bytes processes;
      findings = length (findings (audit_of (index_of bytes) processes queue_limit None));
    }

-- what a trial reports on the dump that is made from a seed and a count of processes
abbrev pub trial_of : ℕ → ℕ → Summary
trial_of seed count = summary_of (made seed count)
