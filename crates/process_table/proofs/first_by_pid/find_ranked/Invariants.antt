use Rattle.std.proofs.Common.{take}
use Rattle.dump_sections.specs.Index.{sections_in}
use Rattle.process_table.specs.Records.{placed_sections}
use Rattle.process_table.specs.Inner.Finding.{AreFound, AreNumbered}
use Rattle.process_table.proofs.first_by_pid.find_ranked.Given as goal

-- the processes among the sections before `i` are found, and the tree has their numbers
abbrev pub invariant-loop-i : goal.invariant-loop-i
invariant-loop-i l = record { found : AreFound l.found (take l.i (placed_sections (sections_in l.index))); numbered : AreNumbered l.numbers l.found.places.items }
