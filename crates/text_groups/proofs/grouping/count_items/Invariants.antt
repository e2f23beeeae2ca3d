use Rattle.std.proofs.Common.{take}
use Rattle.text_groups.specs.Inner.Counting.{AreTallied}
use Rattle.text_groups.proofs.grouping.count_items.Given as goal

-- the items so far are counted
abbrev pub invariant-loop-i : goal.invariant-loop-i
invariant-loop-i g l = AreTallied l.tallies (take l.i (g.G.Grouped.items l.grouped))
