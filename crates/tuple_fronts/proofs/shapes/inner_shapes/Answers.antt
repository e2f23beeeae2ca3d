use Rattle.std.proofs.Common.{◌∙◌, ap, subst, false, length}
use Rattle.std.specs.List.Sorted.{IsStrictlyIncreasing}
use Rattle.std.proofs.lemmas.List.{length-map}
use Rattle.tuple_fronts.specs.CellTexts.{inner_text}
use Rattle.tuple_fronts.proofs.ShownFacts.{inner-shown}
use Rattle.tuple_fronts.proofs.shapes.inner_shapes.Goals as goal

pub returns-clause-count : goal.returns-clause-count
returns-clause-count g c =
    let t = c.in_ok-tuples.tuples in
    ap length c.in_ok-shapes.ensures ∙ length-map t.cells (inner_text false c.args.skeleton.now t) ∙ ap length c.in_ok-tuples.ensures.cells

pub returns-clause-shapes : goal.returns-clause-shapes
returns-clause-shapes g c = λ dump is.
    let tuples = c.in_ok-tuples.ensures in
    inner-shown dump c.args.index.now c.args.pid.now c.args.skeleton.now c.in_ok-tuples.tuples c.args.cells c.in_ok-shapes.shapes
    (c.requires.skeleton dump is) (subst IsStrictlyIncreasing tuples.cells tuples.ascending) tuples.cells (tuples.fronts dump is) c.in_ok-shapes.ensures
