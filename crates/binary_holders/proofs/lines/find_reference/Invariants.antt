use Rattle.std.proofs.Common.{◌-◌, ◌≤◌, length}
use Rattle.memchr.specs.Find.{Nowhere}
use Rattle.binary_holders.specs.Inner.Lines.{IsReferenceMark}
use Rattle.binary_holders.proofs.lines.find_reference.Given as goal

-- no mark of a reference stands before `from`
abbrev pub invariant-loop-from : goal.invariant-loop-from
invariant-loop-from l = record {
  within : l.from ≤ length l.bytes;
  none : Nowhere (IsReferenceMark l.bytes) 0 l.from;
}

abbrev pub decreases-loop-from : goal.decreases-loop-from
decreases-loop-from l = length l.bytes - l.from
