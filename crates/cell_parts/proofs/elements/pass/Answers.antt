use Rattle.std.proofs.Common.{◌++◌, None, sym, subst}
use Rattle.std.specs.Result.{OnOk}
use Rattle.std.proofs.lemmas.Option.{get_or_from_slice_get}
use Rattle.cell_graphs.specs.Laws.Places.{place-within}
use Rattle.cell_parts.specs.Elements.{weighed}
use Rattle.cell_parts.specs.Inner.Walking.{AreMarked, HasAdded}
use Rattle.cell_parts.proofs.Passing.{open-walking, open-work, weigh-walking, weigh-work}
use Rattle.cell_parts.proofs.Walking.{always}
use Rattle.cell_parts.proofs.elements.pass.Goals as goal

pub opened-requires-clause-within : goal.opened-requires-clause-within
opened-requires-clause-within c =
    place-within c.args.skeleton.now.leads c.args.at.cell c.args.at.place c.lead-lead.result c.requires.within c.lead-lead.ensures

pub add_lead-requires-clause-within : goal.add_lead-requires-clause-within
add_lead-requires-clause-within c =
    rw c.requires.cells
    (place-within c.args.skeleton.now.leads c.args.at.cell c.args.at.place c.lead-lead.result c.requires.within c.lead-lead.ensures)

pub returns-in-Some-clause-work : goal.returns-in-Some-clause-work
returns-in-Some-clause-work c =
    let kinds = c.args.skeleton.now.kinds in
    let graph = c.args.skeleton.now.leads in
    let walk = c.args.walk.now in
    open-work kinds graph c.args.at c.lead-lead.result c.lead-lead.ensures walk.frames.items c.go_on.new.frames.items c.in_ok-go_on.ensures.waiting walk.passed.items
    c.open.result c.in-Some.next
    (rw (← c.deref.ensures.value) c.in-Some.ensures.within)
    c.open.new.walk.frames.items c.open.ensures.waiting c.open.new.walk.passed.items
    c.requires.marks
    (rw (← c.deref.ensures.value) c.in-Some.ensures.other)
    c.open.ensures.marks

pub returns-in-Some-clause-walking : goal.returns-in-Some-clause-walking
returns-in-Some-clause-walking c = λ cell before same w.
    let kinds = c.args.skeleton.now.kinds in
    let graph = c.args.skeleton.now.leads in
    let walk = c.args.walk.now in
    open-walking kinds graph c.args.at c.lead-lead.result c.lead-lead.ensures walk.frames.items c.go_on.new.frames.items c.in_ok-go_on.ensures.waiting walk.passed.items
    c.open.result c.in-Some.next
    (rw (← c.deref.ensures.value) c.in-Some.ensures.within)
    c.open.new.walk.frames.items c.open.ensures.waiting cell before c.args.parts.now c.open.new.walk.passed.items
    (λ list are. c.in-Some.ensures.value list (subst (λ marks. AreMarked marks list) (sym c.deref.ensures.value) are))
    c.open.ensures.marks w

pub returns-in-None-clause-work : goal.returns-in-None-clause-work
returns-in-None-clause-work c =
    let kinds = c.args.skeleton.now.kinds in
    let graph = c.args.skeleton.now.leads in
    let walk = c.args.walk.now in
    always c.add_lead.result
    (weigh-work kinds graph c.args.at c.lead-lead.result c.lead-lead.ensures walk.frames.items c.go_on.new.frames.items c.in_ok-go_on.ensures.waiting walk.passed.items
    c.add_lead.result)

pub returns-in-None-clause-walking : goal.returns-in-None-clause-walking
returns-in-None-clause-walking c = λ cell before same w.
    let kinds = c.args.skeleton.now.kinds in
    let graph = c.args.skeleton.now.leads in
    let walk = c.args.walk.now in
    weigh-walking kinds graph c.args.at c.lead-lead.result c.lead-lead.ensures walk.frames.items c.go_on.new.frames.items c.in_ok-go_on.ensures.waiting walk.passed.items
    c.add_lead.result cell before c.args.parts.now c.add_lead.new.parts
    (λ list are. c.in-None.ensures.value list (subst (λ marks. AreMarked marks list) (sym c.deref.ensures.value) are))
    (λ leads has.
    subst (λ kind. OnOk c.add_lead.result (HasAdded before (leads ++ weighed kind c.lead-lead.result) c.add_lead.new.parts))
    (sym (get_or_from_slice_get kinds c.args.at.cell c.kind.result None c.kind.ensures))
    (c.add_lead.ensures.added before leads same has))
    w
