use Rattle.std.proofs.Common.{not, length, filter, ◌==◌, ◌∙◌, ap, slice_range}
use Rattle.heap_graph.specs.Leads.{nowhere}
use Rattle.heap_graph.specs.Laws.Elements.{addresses-counted}
use Rattle.heap_graph.proofs.elements.Elements.addresses_between.Goals as goal

pub returns-in-Leads : goal.returns-in-Leads
returns-in-Leads c = λ fs keeps.
    addresses-counted c.args.self.now c.in-Leads.leads fs c.args.from c.args.upto c.count_references.result c.in-Leads.is keeps
    (c.count_references.ensures ∙ ap (λ l. length (filter (λ m. not (m == nowhere)) l)) (c.items_between.ensures ∙ ap (λ l. slice_range l c.args.from c.args.upto) c.deref.ensures.value))
