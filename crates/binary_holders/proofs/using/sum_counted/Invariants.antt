use Rattle.std.proofs.Common.{◌≡◌, ◌-◌, ◌^◌, take}
use Rattle.std.specs.Prelude.{min}
use Rattle.std.specs.List.{sum_by}
use Rattle.binary_holders.proofs.using.sum_counted.Given as goal

-- what the node counted for the processes so far
abbrev pub invariant-loop-holding : goal.invariant-loop-holding
invariant-loop-holding l = l.sum ≡ min (sum_by (λ holding. holding.counted) (take l.holding-index l.held)) (2 ^ 128 - 1)
