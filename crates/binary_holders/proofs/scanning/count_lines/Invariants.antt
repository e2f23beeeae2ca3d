use Rattle.std.proofs.Common.{◌≡◌, length}
use Rattle.binary_holders.specs.Inner.Counting.{HasRoom, KeepsRoom}
use Rattle.binary_holders.proofs.Scans.{AddedSome}
use Rattle.binary_holders.proofs.scanning.count_lines.Given as goal

-- the lines in front of the rest were counted
abbrev pub invariant-loop-rest : goal.invariant-loop-rest
invariant-loop-rest l = record {
  size : length l.references ≡ 32;
  room : HasRoom (length l.targets) l.counts;
  keeps : KeepsRoom l.initial.counts l.counts;
  some : AddedSome l.enc l.targets l.initial.counts l.counts l.bytes l.rest;
}

abbrev pub decreases-loop-rest : goal.decreases-loop-rest
decreases-loop-rest l = length l.rest
