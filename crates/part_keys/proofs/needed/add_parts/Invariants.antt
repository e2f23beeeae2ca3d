use Rattle.std.proofs.Common.{◌≡◌, ◌++◌, take}
use Rattle.part_keys.specs.Inner.PartTexts.{all_part_tuples}
use Rattle.part_keys.proofs.needed.add_parts.Given as goal

-- what the parts so far need
abbrev pub invariant-loop-part : goal.invariant-loop-part
invariant-loop-part l = l.cells.items ≡ l.fn.cells.items ++ all_part_tuples l.skeleton (take l.part-index l.parts)
