use Rattle.std.proofs.Common.{take}
use Rattle.heap_levels.proofs.RowFacts.{AreLabelled}
use Rattle.heap_levels.proofs.labelling.levels_labelled.Given as goal

-- the levels so far
abbrev pub invariant-loop-keyed : goal.invariant-loop-keyed
invariant-loop-keyed l = AreLabelled l.labels (take l.keyed-index l.levels) l.labelled.items l.from
