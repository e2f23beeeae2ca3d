use Rattle.std.proofs.Common.{ap, refl, Err}
use Rattle.dump_io.specs.Laws.Puts.{Puts-as, Puts-stopped, Puts-then}
use Rattle.dump_questions.specs.Laws.Reading.{Tells-put, Tells-stopped}
use Rattle.skeleton_commands.specs.Shapes.{shapes_report}
use Rattle.skeleton_commands.proofs.shapes.ShapesReport.put.Goals as goal

pub returns-in_err-put_shapes : goal.returns-in_err-put_shapes
returns-in_err-put_shapes g c =
    let shapes = c.args.shapes.now in
    Tells-stopped 0 c.from_residual.result c.from_residual.ensures.1
    (Puts-stopped {T = Unit {0}} {E = Unit {0}} {r = Err tt} _ refl (Puts-as (ap (λ most. shapes_report most shapes) c.from.ensures) c.in_err-put_shapes.ensures))

pub returns-in_err-put_cuts : goal.returns-in_err-put_cuts
returns-in_err-put_cuts g c =
    let shapes = c.args.shapes.now in
    Tells-stopped 0 c.from_residual-in_err-put_cuts.result c.from_residual-in_err-put_cuts.ensures.1
    (Puts-then (Puts-as (ap (λ most. shapes_report most shapes) c.from.ensures) c.in_ok-put_shapes.ensures) c.in_err-put_cuts.ensures)

pub returns : goal.returns
returns g c =
    let shapes = c.args.shapes.now in
    Tells-put (Puts-then (Puts-as (ap (λ most. shapes_report most shapes) c.from.ensures) c.in_ok-put_shapes.ensures) c.in_ok-put_cuts.ensures)
