use Rattle.std.proofs.Common.{◌++◌, ◌∙◌, ap, slice_range}
use Rattle.heap_graph.specs.declared.leads.Leads.{Leads}
use Rattle.heap_graph.specs.Laws.Elements.{range-leads}
use Rattle.heap_graph.proofs.elements.extend_leads.Goals as goal

pub returns : goal.returns
returns c = λ fs keeps addresses.
    let old = c.args.kept.now in
    let new : Leads = record { marks = c.extend_from_slice.new.self; references = c.extend_from_slice-2.new.self } in
    range-leads c.args.all.now c.in-Leads.leads old new fs c.args.from c.args.upto c.args.addresses.now c.in-Leads.is keeps addresses
    (c.in_ok-extend_from_slice.ensures.items
    ∙ ap (λ l. old.marks.items ++ l) (c.items_between.ensures ∙ ap (λ l. slice_range l c.args.from c.args.upto) c.deref.ensures.value))
    c.in_ok-extend_from_slice-2.ensures.items
