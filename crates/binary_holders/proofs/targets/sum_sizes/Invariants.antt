use Rattle.std.proofs.Common.{◌≡◌, ◌*◌, ◌^◌, ◌≤◌, take}
use Rattle.std.specs.List.{sum_by}
use Rattle.binary_holders.proofs.targets.sum_sizes.Given as goal

-- the sum of the first sizes, each of which has 64 bits
abbrev pub invariant-loop-binary : goal.invariant-loop-binary
invariant-loop-binary l = record {
  sum : l.sum ≡ sum_by (λ binary. binary.size) (take l.binary-index l.binaries);
  small : l.sum ≤ l.binary-index * 2 ^ 64;
}
