use Rattle.std.proofs.lemmas.Option.{slice_get-get_or}
use Rattle.dump_io.specs.Laws.Puts.{HasPut-more, Puts-broken}
use Rattle.glance_text.specs.Triage.{group_line, standing}
use Rattle.glance_text.proofs.triage_rows.put_groups.Goals as goal

pub loop-group-preserved : goal.loop-group-preserved
loop-group-preserved g c =
    let rows = c.args.groups.now in
    let i = c.loop-group.group-index in
    HasPut-more (group_line (standing c.args.index.now c.args.procs.now.processes c.args.stands.now)) rows i _ (slice_get-get_or rows i _ c.loop-group-test.true) c.loop-group.invariant c.in_ok-put_group.ensures

pub returns-in_err-put_group : goal.returns-in_err-put_group
returns-in_err-put_group g c =
    let rows = c.args.groups.now in
    let i = c.loop-group.group-index in
    Puts-broken (group_line (standing c.args.index.now c.args.procs.now.processes c.args.stands.now)) rows i _ (slice_get-get_or rows i _ c.loop-group-test.true) c.loop-group.invariant c.from_residual.ensures.0 c.in_err-put_group.ensures
