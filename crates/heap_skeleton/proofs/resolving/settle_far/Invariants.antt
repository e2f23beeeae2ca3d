use Rattle.std.proofs.Common.{◌≡◌, length}
use Rattle.heap_skeleton.specs.Inner.Resolving.{IsFarSettled}
use Rattle.heap_skeleton.proofs.resolving.settle_far.Given as goal

-- the far elements so far are resolved
abbrev pub invariant-loop-k : goal.invariant-loop-k
invariant-loop-k l = record {
  search : l.search ≡ l.ranks;
  count : length l.numbers ≡ length l.fn.numbers;
  settled : IsFarSettled l.ranks l.kinds l.to_binary l.far l.fn.numbers l.numbers l.k;
}
