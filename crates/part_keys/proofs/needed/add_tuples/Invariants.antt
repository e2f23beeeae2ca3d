use Rattle.std.proofs.Common.{◌≡◌, ◌++◌, take}
use Rattle.part_keys.specs.Inner.KeyTexts.{all_key_tuples}
use Rattle.part_keys.proofs.needed.add_tuples.Given as goal

-- the tuples to which the keys so far refer
abbrev pub invariant-loop-key : goal.invariant-loop-key
invariant-loop-key l = l.cells.items ≡ l.fn.cells.items ++ all_key_tuples l.skeleton (take l.key-index l.keys)
