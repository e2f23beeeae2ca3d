use Rattle.std.proofs.Common.{arith}
use Rattle.heap_cells.specs.HeapMap.{form_at}
use Rattle.heap_cells.specs.Targets.{number}
use Rattle.term_unfold.proofs.ChildFacts.{item-child, members-are}
use Rattle.term_unfold.proofs.children.item_at.Goals as goal

pub returns : goal.returns
returns c =
    item-child c.args.heap.now c.args.ix c.args.place c.requires.bounded c.requires.cell c.requires.kind (members-are (form_at c.args.heap.now.cells (number c.args.ix)) c.requires.kind) (omega (arith, c.if-place-kids.false, c.kids.ensures))
