use Rattle.std.proofs.lemmas.Option.{slice_get-get_or}
use Rattle.dump_io.specs.Laws.Puts.{HasPut-more, Puts-broken}
use Rattle.stream_commands.specs.Stacks.{group_lines}
use Rattle.stream_commands.proofs.stack_report.put_groups.Goals as goal

pub loop-group-preserved : goal.loop-group-preserved
loop-group-preserved g c =
    let groups = c.args.groups.now in
    let i = c.loop-group.group-index in
    HasPut-more (group_lines c.args.procs.now c.args.stacks.now.places) groups i _ (slice_get-get_or groups i _ c.loop-group-test.true) c.loop-group.invariant c.in_ok-put_lines.ensures

pub returns-in_err-put_lines : goal.returns-in_err-put_lines
returns-in_err-put_lines g c =
    let groups = c.args.groups.now in
    let i = c.loop-group.group-index in
    Puts-broken (group_lines c.args.procs.now c.args.stacks.now.places) groups i _ (slice_get-get_or groups i _ c.loop-group-test.true) c.loop-group.invariant c.from_residual.ensures.0
    c.in_err-put_lines.ensures
