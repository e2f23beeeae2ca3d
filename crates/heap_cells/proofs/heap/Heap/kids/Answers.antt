use Rattle.std.proofs.Common.{length, ◌∙◌, sym, ap, arith}
use Rattle.std.proofs.lemmas.List.{length-map}
use Rattle.heap_cells.specs.HeapMap.{elements_at}
use Rattle.heap_cells.specs.Targets.{number, target, slot_target}
use Rattle.heap_cells.proofs.heap.Heap.kids.Goals as goal

pub overflow_cast-result : goal.overflow_cast-result
overflow_cast-result c = omega (arith, c.slots.ensures.few)

pub returns : goal.returns
returns c =
    let cells = c.args.self.now.cells in
    sym (length-map c.slots.result.now slot_target) ∙ ap length c.slots.ensures.targets ∙ length-map (elements_at cells (number c.args.ix)) (target cells)
