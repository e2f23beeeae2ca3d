use Rattle.std.proofs.Common.{◌≤◌, length, take}
use Rattle.dump_sections.specs.Index.{sections_in}
use Rattle.binary_holders.specs.Inner.Finding.{AreFound}
use Rattle.binary_holders.proofs.stored.find_stored.Given as goal

-- the binaries among the sections before `i` are found
abbrev pub invariant-loop-i : goal.invariant-loop-i
invariant-loop-i l = record {
  few : length l.found.binaries.items ≤ l.i;
  found : AreFound l.index (take l.i (sections_in l.index)) l.found;
}
