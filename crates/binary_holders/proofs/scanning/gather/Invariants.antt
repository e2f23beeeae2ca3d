use Rattle.std.proofs.Common.{◌≡◌, ◌++◌, ◌<◌, ◌≤◌, length, take}
use Rattle.binary_holders.specs.Inner.Lines.{line_references}
use Rattle.binary_holders.proofs.scanning.gather.Given as goal

-- the lines in front of the rest were gathered
abbrev pub invariant-loop-count : goal.invariant-loop-count
invariant-loop-count l = record {
  few : l.count ≤ length l.references;
  size : length l.references ≡ length l.initial.references;
  found : line_references l.enc l.bytes ≡ take l.count l.references ++ line_references l.enc l.rest;
  within : length l.rest ≤ length l.bytes;
  shorter : 0 < l.count → length l.rest < length l.bytes;
}

abbrev pub decreases-loop-count : goal.decreases-loop-count
decreases-loop-count l = length l.rest
