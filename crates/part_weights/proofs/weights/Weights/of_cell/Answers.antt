use Rattle.std.proofs.Common.{sym, ◌∙◌, ap, Some}
use Rattle.std.specs.Prelude.{option_map}
use Rattle.heap_skeleton.specs.Skeletons.{skeleton_for}
use Rattle.tuple_fronts.specs.Fronts.{cells_for}
use Rattle.part_weights.specs.Weights.{cell_weighing}
use Rattle.part_weights.proofs.ShareFacts.{address-found}
use Rattle.part_weights.proofs.weights.Weights.of_cell.Goals as goal

pub returns-in-None-clause-weights : goal.returns-in-None-clause-weights
returns-in-None-clause-weights g c = λ bytes is.
    let heap = c.in_ok-skeleton.skeleton in
    let cells = cells_for bytes c.args.index.now c.args.pid.now in
    ap (option_map (cell_weighing heap cells c.args.most)) (sym c.in-None.is)
    ∙ address-found heap (skeleton_for bytes c.args.index.now c.args.pid.now) cells c.args.most c.args.address c.find.result c.find.ensures.value (c.in_ok-skeleton.ensures.skeleton bytes is)

pub returns-in_ok-weights-in-Some-clause-weights : goal.returns-in_ok-weights-in-Some-clause-weights
returns-in_ok-weights-in-Some-clause-weights g c = λ bytes is.
    let heap = c.in_ok-skeleton.skeleton in
    let cells = cells_for bytes c.args.index.now c.args.pid.now in
    ap Some (c.in_ok-weights-in-Some.ensures.weights bytes (c.in_ok-skeleton.ensures.reads.same_now ∙ is)) ∙ ap (option_map (cell_weighing heap cells c.args.most)) (sym c.in-Some.is)
    ∙ address-found heap (skeleton_for bytes c.args.index.now c.args.pid.now) cells c.args.most c.args.address c.find.result c.find.ensures.value (c.in_ok-skeleton.ensures.skeleton bytes is)
