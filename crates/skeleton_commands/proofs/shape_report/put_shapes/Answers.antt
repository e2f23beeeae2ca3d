use Rattle.std.proofs.Common.{take, ◌∙◌, ap}
use Rattle.std.specs.List.{flat_map}
use Rattle.dump_io.specs.Laws.Puts.{Puts-as, Puts-stopped, Puts-then}
use Rattle.skeleton_commands.specs.Shapes.{shape_line}
use Rattle.skeleton_commands.proofs.shape_report.put_shapes.Goals as goal

pub returns-in_err-put_groups : goal.returns-in_err-put_groups
returns-in_err-put_groups g c =
    let lines = flat_map (shape_line c.args.shapes.now.messages) in
    Puts-stopped _ c.from_residual.ensures.0 (Puts-as (ap lines (c.first_groups.ensures ∙ ap (take c.args.most) c.groups.ensures.value)) c.in_err-put_groups.ensures)

pub returns : goal.returns
returns g c =
    let lines = flat_map (shape_line c.args.shapes.now.messages) in
    Puts-then (Puts-as (ap lines (c.first_groups.ensures ∙ ap (take c.args.most) c.groups.ensures.value)) c.in_ok-put_groups.ensures) c.put_total.ensures
