use Rattle.std.proofs.Common.{take}
use Rattle.part_keys.specs.Inner.KeyTexts.{AreAmong}
use Rattle.part_keys.proofs.needed.most_of.Given as goal

-- the keys so far are among so many elements
abbrev pub invariant-loop-key : goal.invariant-loop-key
invariant-loop-key l = AreAmong l.most (take l.key-index l.keys)
