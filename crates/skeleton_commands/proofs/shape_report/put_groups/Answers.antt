use Rattle.std.proofs.lemmas.Option.{slice_get-get_or}
use Rattle.dump_io.specs.Laws.Puts.{HasPut-more, Puts-broken}
use Rattle.skeleton_commands.specs.Shapes.{shape_line}
use Rattle.skeleton_commands.proofs.shape_report.put_groups.Goals as goal

pub loop-group-preserved : goal.loop-group-preserved
loop-group-preserved g c =
    let groups = c.args.groups.now in
    let i = c.loop-group.group-index in
    HasPut-more (shape_line c.args.shapes.now.messages) groups i _ (slice_get-get_or groups i _ c.loop-group-test.true) c.loop-group.invariant c.in_ok-put_group.ensures

pub returns-in_err-put_group : goal.returns-in_err-put_group
returns-in_err-put_group g c =
    let groups = c.args.groups.now in
    let i = c.loop-group.group-index in
    Puts-broken (shape_line c.args.shapes.now.messages) groups i _ (slice_get-get_or groups i _ c.loop-group-test.true) c.loop-group.invariant c.from_residual.ensures.0
    c.in_err-put_group.ensures
