use Rattle.std.proofs.Common.{length, take}
use Rattle.binary_holders.specs.Inner.Counting.{HasRoom, Adds, KeepsRoom}
use Rattle.binary_holders.proofs.scanning.count_references.Given as goal

-- the first references were counted
abbrev pub invariant-loop-reference : goal.invariant-loop-reference
invariant-loop-reference l = record {
  room : HasRoom (length l.targets) l.counts;
  keeps : KeepsRoom l.initial.counts l.counts;
  adds : Adds l.targets l.initial.counts l.counts (take l.reference-index l.references);
}
