use Rattle.std.proofs.Common.{◌≡◌}
use Rattle.text_groups.specs.Inner.Counting.{AreLeft}
use Rattle.text_groups.proofs.TallyFacts.{groups_upto}
use Rattle.text_groups.proofs.grouping.group_texts.Given as goal

-- the groups of the items so far, and the texts that none of these has are left
abbrev pub invariant-loop-i : goal.invariant-loop-i
invariant-loop-i g l =
    let items = g.G.Grouped.items l.grouped in
    record {
      groups : l.groups.items ≡ groups_upto items l.i;
      left : AreLeft l.tallies items l.i;
    }
