use Rattle.std.proofs.Common.{take}
use Rattle.dump_sections.specs.Index.{sections_in}
use Rattle.dump_sections.specs.Inner.Places.{AreFirsts}
use Rattle.dump_sections.proofs.firsts.pairs_of.Given as goal

-- the sections so far
abbrev pub invariant-loop-i : goal.invariant-loop-i
invariant-loop-i l = AreFirsts l.tag (take l.i (sections_in l.index)) l.pairs.items
