use Rattle.std.proofs.Common.{List, map, ◌∙◌, ap}
use Rattle.std.specs.Prelude.{ℕ}
use Rattle.cell_records.specs.Resolving.{settled}
use Rattle.heap_cells.specs.Cells.{Cell}
use Rattle.heap_cells.specs.HeapMap.{HeapMap}
use Rattle.heap_graph.specs.declared.held.CellPart.{CellPart}
use Rattle.heap_graph.specs.Held.{addresses_of}
use Rattle.heap_cells.proofs.HeapFacts.{made-cells, made-heap, slots-kept}
use Rattle.heap_cells.proofs.heap.heap_of.Goals as goal

pub invariant_of-result : goal.invariant_of-result
invariant_of-result c =
    let held = c.args.ordered.settled.held in
    let slots = c.in-Slots.slots in
    made-heap c.args.texts c.args.ordered slots.items c.in_ok-slots.slots.items c.in_ok-order.order.items c.requires.heap c.requires.literals c.requires.settled
    (λ fs keeps. slots-kept held.elements slots fs c.in-Slots.is keeps)
    (c.in_ok-slots.ensures ∙ ap (λ (p : List CellPart). map (settled (addresses_of p)) slots.items) c.deref.ensures.value)
    (c.in_ok-order.ensures.order (addresses_of held.parts.items) c.requires.settled.ranked)

pub returns : goal.returns
returns c =
    let texts = c.args.texts in
    let made : List Cell → ℕ → HeapMap = λ cells own. record { cells = cells; own = own; enc = texts.enc } in
    record { heap = ap (λ l. made l c.args.ordered.settled.own) (made-cells texts c.args.ordered c.requires.settled) ∙ ap (made _) c.requires.settled.own_is }
