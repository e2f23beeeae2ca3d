use Rattle.std.proofs.Common.{false, true, ◌∙◌}
use Rattle.heap_graph.specs.Held.{addresses_of}
use Rattle.heap_skeleton.proofs.ResolveFacts.{all-resolved, far-moved}
use Rattle.heap_skeleton.proofs.resolving.resolve.Goals as goal

pub returns : goal.returns
returns c = λ leads are left.
    let xs = addresses_of c.args.parts.now in
    let near = c.in_ok-resolve_near.ensures leads are left in
    let far = c.resolve_near.new.far in
    let cells = c.sort.ensures.permutation in
    let binaries = c.sort-2.ensures.permutation in
    let count = c.settle_far.ensures.count ∙ near.count in
    all-resolved xs c.args.kinds.now leads far c.sort.new.self c.sort-2.new.self c.resolve_near.new.numbers c.settle_far.new.numbers c.settle_far-2.new.numbers near cells binaries
    (c.settle_far.ensures.settled xs leads c.requires.ranked (far-moved leads false far.cells c.sort.new.self near.cells cells) near.count)
    (c.settle_far-2.ensures.settled xs leads c.requires.ranked (far-moved leads true far.binaries c.sort-2.new.self near.binaries binaries) count)
    (c.settle_far-2.ensures.count ∙ count)
