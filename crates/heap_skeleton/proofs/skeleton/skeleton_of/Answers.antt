use Rattle.std.proofs.Common.{map, sym, ◌∙◌, ap, ap₂, subst}
use Rattle.heap_graph.specs.Held.{addresses_of}
use Rattle.heap_skeleton.specs.Inner.Shown.{shown_skeleton, starts_of, IsSound}
use Rattle.heap_skeleton.specs.Inner.Targets.{resolved}
use Rattle.heap_skeleton.proofs.ShownFacts.{leads-addresses, shown-lines, sound-lines}
use Rattle.heap_skeleton.proofs.skeleton.skeleton_of.Goals as goal

pub invariant_of-result : goal.invariant_of-result
invariant_of-result c =
    let held = c.args.ordered.settled.held in
    let own = c.args.ordered.settled.own in
    let numbers = c.in_ok-numbers.numbers.items in
    let order = c.in_ok-order.order.items in
    let sound = sound-lines own c.requires.holds.lines held c.in-Leads.leads numbers order c.requires.holds.held_is c.requires.small c.requires.own
    (c.in_ok-order.ensures.order (addresses_of held.parts.items) c.requires.ranked) c.in-Leads.is
    (λ ls a b. c.in_ok-numbers.ensures ls a b ∙ ap₂ (λ p k. map (resolved (addresses_of p) k) ls) c.deref.ensures.value c.deref-2.ensures.value) in
    let sound_still : IsSound own c.shrink_to_fit.new.self.items c.shrink_to_fit-2.new.self.items numbers order =
    subst (λ k. IsSound own c.shrink_to_fit.new.self.items k numbers order) (sym c.shrink_to_fit-2.ensures.items)
    (subst (λ p. IsSound own p held.kinds.items numbers order) (sym c.shrink_to_fit.ensures.items) sound) in
    (sound_still, c.in_ok-starts.ensures ∙ ap starts_of c.deref-3.ensures.value)

pub returns-clause-cells : goal.returns-clause-cells
returns-clause-cells c = leads-addresses c.shrink_to_fit.new.self.items c.in_ok-numbers.numbers.items

pub returns-clause-lines : goal.returns-clause-lines
returns-clause-lines c = λ lines is.
    let held = c.args.ordered.settled.held in
    let own = c.args.ordered.settled.own in
    let numbers = c.in_ok-numbers.numbers.items in
    ap₂ (λ p k. shown_skeleton own p k numbers) c.shrink_to_fit.ensures.items c.shrink_to_fit-2.ensures.items
    ∙ shown-lines own lines held c.in-Leads.leads numbers is c.requires.small c.in-Leads.is
    (λ ls a b. c.in_ok-numbers.ensures ls a b ∙ ap₂ (λ p k. map (resolved (addresses_of p) k) ls) c.deref.ensures.value c.deref-2.ensures.value)
