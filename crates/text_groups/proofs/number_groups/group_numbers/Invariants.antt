use Rattle.std.proofs.Common.{◌≡◌, length, map}
use Rattle.text_groups.specs.Inner.Numbers.{number_item, AreLeftCounts}
use Rattle.text_groups.proofs.TallyFacts.{groups_upto}
use Rattle.text_groups.proofs.number_groups.group_numbers.Given as goal

-- the groups of the numbers so far, and the counts of those that are none of these are left
abbrev pub invariant-loop-i : goal.invariant-loop-i
invariant-loop-i l = record {
  groups : l.groups.items ≡ groups_upto (map number_item l.numbers) l.i;
  left : AreLeftCounts l.counts.items l.numbers l.i;
  len : length l.counts.items ≡ l.different;
}
