use Rattle.std.proofs.Common.{◌∙◌, ap, length}
use Rattle.std.proofs.lemmas.List.{length-map}
use Rattle.tuple_fronts.specs.CellTexts.{subject_text}
use Rattle.tuple_fronts.proofs.ShownFacts.{subjects-shown}
use Rattle.tuple_fronts.proofs.shapes.cell_shapes_with.Goals as goal

pub returns-clause-count : goal.returns-clause-count
returns-clause-count g c =
    ap length c.in_ok-shapes.ensures ∙ length-map c.args.cells.now (subject_text c.args.pids c.args.skeleton.now c.in_ok-tuples.tuples)

pub returns-clause-shapes : goal.returns-clause-shapes
returns-clause-shapes g c = λ dump is.
    subjects-shown c.args.pids dump c.args.index.now c.args.pid.now c.args.skeleton.now c.in_ok-tuples.tuples c.args.cells.now c.in_ok-needed.needed c.in_ok-shapes.shapes
    (c.requires.skeleton dump is) c.in_ok-needed.ensures.ascending c.in_ok-needed.ensures.all
    c.in_ok-tuples.ensures.cells (c.in_ok-tuples.ensures.fronts dump is) c.in_ok-shapes.ensures
