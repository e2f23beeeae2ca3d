use Rattle.std.proofs.Common.{take}
use Rattle.dump_sections.specs.Index.{sections_in}
use Rattle.process_table.specs.Records.{placed_sections}
use Rattle.process_table.specs.Inner.Finding.{AreFoundRising}
use Rattle.process_table.proofs.first_by_pid.find_rising.Given as goal

-- the processes among the sections before `place` are found, and their pids rise
abbrev pub invariant-loop-place : goal.invariant-loop-place
invariant-loop-place l = AreFoundRising l.places (take l.place (placed_sections (sections_in l.index)))
