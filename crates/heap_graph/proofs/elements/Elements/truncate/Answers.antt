use Rattle.std.proofs.Common.{subst}
use Rattle.heap_graph.specs.declared.elements.Elements.{Elements}
use Rattle.heap_graph.specs.Elements.{Appends}
use Rattle.heap_graph.specs.Laws.Elements.{back-leads, back-slots}
use Rattle.heap_graph.proofs.elements.Elements.truncate.Goals as goal

pub returns-in-Leads : goal.returns-in-Leads
returns-in-Leads c = λ old fs appended len addresses.
    back-leads old c.in-Leads.leads c.truncate.new.self fs c.args.len c.args.addresses (subst (λ (e : Elements). Appends old e fs) c.in-Leads.is appended) len addresses c.truncate.ensures.marks
    c.truncate.ensures.references

pub returns-in-Slots : goal.returns-in-Slots
returns-in-Slots c = λ old fs appended len addresses.
    back-slots old c.in-Slots.slots c.truncate-in-Slots.new.self fs c.args.len (subst (λ (e : Elements). Appends old e fs) c.in-Slots.is appended) len c.truncate-in-Slots.ensures.items
