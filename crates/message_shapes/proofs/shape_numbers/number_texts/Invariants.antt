use Rattle.std.proofs.Common.{take}
use Rattle.text_groups.specs.Numbers.{HaveNumbers}
use Rattle.message_shapes.proofs.shape_numbers.number_texts.Given as goal

-- the numbers of the texts so far
abbrev pub invariant-loop-i : goal.invariant-loop-i
invariant-loop-i l = HaveNumbers l.known (take l.i l.texts) l.numbers.items
