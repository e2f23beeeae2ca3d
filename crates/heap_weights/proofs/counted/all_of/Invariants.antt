use Rattle.std.proofs.Common.{◌≡◌, take}
use Rattle.heap_weights.specs.Inner.Tallies.{all_of}
use Rattle.heap_weights.proofs.counted.all_of.Given as goal

-- the first sets were added
abbrev pub invariant-loop-place : goal.invariant-loop-place
invariant-loop-place l = l.all ≡ all_of l.fn.first (take l.place l.weights)
