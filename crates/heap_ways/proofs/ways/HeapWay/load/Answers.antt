use Rattle.std.proofs.Common.{Some, sym, ap, ◌∙◌}
use Rattle.std.specs.Option.{option_map}
use Rattle.heap_skeleton.specs.Skeletons.{skeleton_for}
use Rattle.heap_ways.specs.Ways.{root_way}
use Rattle.heap_ways.proofs.KeptFacts.{address-found}
use Rattle.heap_ways.proofs.ways.HeapWay.load.Goals as goal

pub returns-in-None-clause-way : goal.returns-in-None-clause-way
returns-in-None-clause-way g c = λ bytes is.
    let index = c.args.index.now in
    let pid = c.args.pid.now in
    let heap = c.in_ok-skeleton.skeleton in
    ap (option_map (root_way bytes index pid heap)) (sym c.in-None.is)
    ∙ address-found bytes index pid heap (skeleton_for bytes index pid) c.args.address c.find.result c.find.ensures.value (c.in_ok-skeleton.ensures.skeleton bytes is)

pub returns-in_ok-way-in-Some-clause-way : goal.returns-in_ok-way-in-Some-clause-way
returns-in_ok-way-in-Some-clause-way g c = λ bytes is.
    let index = c.args.index.now in
    let pid = c.args.pid.now in
    let heap = c.in_ok-skeleton.skeleton in
    ap Some (c.in_ok-way-in-Some.ensures.way bytes (c.in_ok-skeleton.ensures.reads.same_now ∙ is))
    ∙ ap (option_map (root_way bytes index pid heap)) (sym c.in-Some.is)
    ∙ address-found bytes index pid heap (skeleton_for bytes index pid) c.args.address c.find.result c.find.ensures.value (c.in_ok-skeleton.ensures.skeleton bytes is)
