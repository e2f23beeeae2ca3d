use Rattle.std.proofs.Common.{◌++◌, ◌∙◌, ap, slice_range}
use Rattle.heap_graph.specs.Laws.Elements.{range-slots}
use Rattle.heap_graph.proofs.elements.extend_slots.Goals as goal

pub returns : goal.returns
returns c = λ fs keeps.
    let old = c.args.kept.now in
    range-slots c.args.all.now c.in-Slots.slots old.items c.extend_from_slice.new.self.items fs c.args.from c.args.upto c.in-Slots.is keeps
    (c.in_ok-extend_from_slice.ensures.items
    ∙ ap (λ l. old.items ++ l) (c.items_between.ensures ∙ ap (λ l. slice_range l c.args.from c.args.upto) c.deref.ensures.value))
