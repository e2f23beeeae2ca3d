use Rattle.std.proofs.Common.{◌<◌, length, sym, subst, ◌∙◌}
use Rattle.std.specs.List.{AllByRecursion}
use Rattle.heap_ways.specs.Inner.Kept.{step_cell}
use Rattle.heap_ways.proofs.KeptFacts.{cells-in}
use Rattle.heap_ways.proofs.placing.place_steps.Goals as goal

pub placed_steps-requires : goal.placed_steps-requires
placed_steps-requires c =
    let heap = c.args.skeleton.now in
    subst (AllByRecursion (λ st. step_cell st < length heap.leads)) (sym (c.deref.ensures.value ∙ c.in_ok-steps.ensures)) (cells-in heap c.args.way.now c.requires)
