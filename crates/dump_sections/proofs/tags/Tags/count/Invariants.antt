use Rattle.std.proofs.Common.{take}
use Rattle.dump_sections.specs.Tags.{tags_in}
use Rattle.dump_sections.specs.Inner.Counting.{IsCounted, counts_of}
use Rattle.dump_sections.proofs.tags.Tags.count.Given as goal

-- the sections before `i` are counted
abbrev pub invariant-loop-i : goal.invariant-loop-i
invariant-loop-i l = IsCounted l.numbers (counts_of l.counts.items) (take l.i (tags_in l.index))
