use Rattle.std.proofs.Common.{◌≡◌, length, take}
use Rattle.text_groups.specs.Inner.Numbers.{AreCounts}
use Rattle.text_groups.proofs.number_groups.count_numbers.Given as goal

-- the numbers so far are counted
abbrev pub invariant-loop-n : goal.invariant-loop-n
invariant-loop-n l = record {
  counts : AreCounts l.counts.items (take l.n-index l.numbers);
  len : length l.counts.items ≡ l.different;
}
