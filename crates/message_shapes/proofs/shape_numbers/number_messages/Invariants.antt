use Rattle.std.proofs.Common.{take}
use Rattle.text_groups.specs.Numbers.{HaveNumbers}
use Rattle.message_shapes.specs.Inner.Shaped.{messages_with, shapes_of}
use Rattle.message_shapes.proofs.shape_numbers.number_messages.Given as goal

-- the numbers of the shapes of all cells, and of the messages so far
abbrev pub invariant-loop-i : goal.invariant-loop-i
invariant-loop-i l = record {
  cells : HaveNumbers l.known l.shapes l.of_cells.items;
  messages : HaveNumbers l.known (take l.i (shapes_of (messages_with l.cells l.shapes l.heard))) l.numbers.items;
}
