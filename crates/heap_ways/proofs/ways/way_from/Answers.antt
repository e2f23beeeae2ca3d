use Rattle.std.proofs.Common.{sym, subst}
use Rattle.tuple_fronts.specs.Fronts.{cells_for}
use Rattle.heap_ways.specs.Inner.Kept.{AreIn}
use Rattle.heap_ways.proofs.KeptFacts.{way-shown}
use Rattle.heap_ways.proofs.ways.way_from.Goals as goal

pub invariant_of-result : goal.invariant_of-result
invariant_of-result g c =
    subst (λ count. AreIn c.args.skeleton count c.in_ok-steps.steps.items) (sym c.in_ok-fronts.ensures.count) c.in_ok-steps.ensures.within

pub returns-clause-way : goal.returns-clause-way
returns-clause-way g c = λ bytes is.
    let found = c.in_ok-way.field-0 in
    way-shown c.args.skeleton (cells_for bytes c.args.index.now c.args.pid.now) c.args.parts.now.parts c.args.cell found.way.items c.deref.result.now c.deref-2.result.now c.deref-3.result.now
    c.in_ok-tuples.tuples c.in_ok-fronts.fronts c.in_ok-steps.steps.items c.in_ok-root.root found.depth
    c.deref.ensures.value c.deref-2.ensures.value c.deref-3.ensures.value c.in_ok-way.ensures.way c.in_ok-way.ensures.depth c.in_ok-root.ensures c.in_ok-tuples.ensures.has c.in_ok-tuples.ensures.ascending
    c.in_ok-steps.ensures.value (c.in_ok-fronts.ensures.shapes bytes is)
