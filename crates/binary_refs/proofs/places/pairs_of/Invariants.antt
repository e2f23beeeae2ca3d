use Rattle.std.proofs.Common.{take}
use Rattle.dump_sections.specs.Index.{sections_in}
use Rattle.binary_refs.specs.Inner.Places.{AreFirsts}
use Rattle.binary_refs.proofs.places.pairs_of.Given as goal

-- the sections so far
abbrev pub invariant-loop-i : goal.invariant-loop-i
invariant-loop-i l = AreFirsts (take l.i (sections_in l.index)) l.pairs.items
