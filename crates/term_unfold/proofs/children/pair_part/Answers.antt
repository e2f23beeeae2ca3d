use Rattle.std.proofs.Common.{◌*◌, arith, subst, sym}
use Rattle.dump_io.specs.Limits.{usual}
use Rattle.heap_cells.specs.HeapMap.{elements_at}
use Rattle.heap_cells.specs.Targets.{number}
use Rattle.cell_records.specs.declared.cells.Slot.TheVariants as slot
use Rattle.term_unfold.proofs.Targets.{slot-leads}
use Rattle.term_unfold.specs.Inner.Children.{IsChildAt}
use Rattle.term_unfold.proofs.ChildFacts.{flat_kids-at}
use Rattle.term_unfold.proofs.children.pair_part.Goals as goal

pub returns-in-Cell : goal.returns-in-Cell
returns-in-Cell c =
    let heap = c.args.heap.now.cells in
    let elements = elements_at heap (number c.args.ix) in
    subst (λ l. IsChildAt heap l c.args.place (2 * usual.dense) c.key_or_value.result)
    (sym (flat_kids-at heap elements (number c.in-Cell.keys) (omega (arith, c.if-kids-eq0.false, c.kids.ensures)) (slot-leads heap c.slots.result.now elements 0 (slot.Cell c.in-Cell.keys) c.slots.ensures.targets c.in-Cell.is)))
    c.key_or_value.ensures
