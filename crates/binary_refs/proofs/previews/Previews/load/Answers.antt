use Rattle.std.proofs.Common.{◌∙◌, map, sym, ap}
use Rattle.binary_refs.specs.Previews.{stating}
use Rattle.binary_refs.proofs.EntryFacts.{entries-sorted, are-for, no-previews}
use Rattle.binary_refs.proofs.previews.Previews.load.Goals as goal

pub invariant_of-result : goal.invariant_of-result
invariant_of-result g c =
    let none = c.has_reference.ensures c.if-not-has_reference.true in
    entries-sorted c.args.heap.now.cells c.new.result.items (ap (map stating) c.new.ensures.items ∙ sym none)

pub returns-then-not-has_reference-clause-previews : goal.returns-then-not-has_reference-clause-previews
returns-then-not-has_reference-clause-previews g c = λ dump is.
    let none = c.has_reference.ensures c.if-not-has_reference.true in
    c.new.ensures.items ∙ sym (no-previews dump c.args.index.now c.args.heap.now.enc c.args.heap.now.cells none)

pub returns-then-not-has_reference-clause-each : goal.returns-then-not-has_reference-clause-each
returns-then-not-has_reference-clause-each g c =
    let none = c.has_reference.ensures c.if-not-has_reference.true in
    are-for c.args.heap.now.cells c.new.result.items (ap (map stating) c.new.ensures.items ∙ sym none)
