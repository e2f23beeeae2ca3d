use Rattle.std.proofs.lemmas.Option.{slice_get-get_or}
use Rattle.dump_io.specs.Laws.Puts.{HasPut-more, Puts-broken}
use Rattle.skeleton_commands.specs.Heavy.{kind_line}
use Rattle.skeleton_commands.proofs.heavy_report.put_kinds.Goals as goal

pub loop-row-preserved : goal.loop-row-preserved
loop-row-preserved g c =
    let rows = c.args.rows.now in
    let i = c.loop-row.row-index in
    HasPut-more kind_line rows i _ (slice_get-get_or rows i _ c.loop-row-test.true) c.loop-row.invariant c.in_ok-put_kind.ensures

pub returns-in_err-put_kind : goal.returns-in_err-put_kind
returns-in_err-put_kind g c =
    let rows = c.args.rows.now in
    let i = c.loop-row.row-index in
    Puts-broken kind_line rows i _ (slice_get-get_or rows i _ c.loop-row-test.true) c.loop-row.invariant c.from_residual.ensures.0 c.in_err-put_kind.ensures
