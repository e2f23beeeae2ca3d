-- What `waits` has read, and what is told of it.
use Rattle.std.specs.Prelude.{◌≡◌, ℕ, ◌<◌, List, All, Option, length}
use Rattle.dump_sections.specs.Index.{Contents}
use Rattle.process_table.specs.Processes.{AreProcessesOver, IsProcessIn, ProcessTable}
use Rattle.section_rows.specs.Rows.{Row}
use Rattle.wait_circles.specs.Report.{WaitReport}
use Rattle.wait_requests.specs.Waits.{waiters_with}
use Rattle.stream_commands.specs.Waits.{Awaiting}
use Rattle.stream_commands.specs.declared.wait_report.Told.{Told}

-- the processes, where they stand, and for whom they wait, as they were read
abbrev pub seen_waits : Contents → ProcessTable → List Row → List (Option (List ℕ)) → Awaiting
seen_waits index table stands targets =
    record { index = index; processes = table.processes; stands = stands; waiters = waiters_with table.processes targets }

-- the processes are those of the index, and of each it was read where it stands and for whom it waits
pub record FitsWaits (index : Contents) (table : ProcessTable) (stands : List Row) (targets : List (Option (List ℕ))) : Type 0 where
  pub over : AreProcessesOver index table
  pub stand_count : length stands ≡ length table.processes
  pub target_count : length targets ≡ length table.processes

-- what is told, as the report has it
abbrev pub awaiting : Told → Awaiting
awaiting told =
    record { index = told.index.now; processes = told.procs.now.processes; stands = told.stands.now; waiters = told.waiters }

-- how many processes are told of
abbrev pub told_count : Told → ℕ
told_count told = length told.procs.now.processes

-- each process is one of the index, and of each it is told where it stands and for whom it waits
pub record IsTold (told : Told) : Type 0 where
  pub named : All (IsProcessIn told.index.now) told.procs.now.processes
  pub stands : length told.stands.now ≡ told_count told
  pub waiters : length told.waiters ≡ told_count told

-- what was found is of the first so many processes
pub record AreAmong (count : ℕ) (found : WaitReport) : Type 0 where
  pub blockers : All (λ blocker. blocker.first < count) found.blockers
  pub circles : All (λ on. on.process < count) found.on_circles
