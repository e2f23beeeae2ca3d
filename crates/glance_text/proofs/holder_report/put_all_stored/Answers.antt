use Rattle.std.proofs.lemmas.Option.{slice_get-get_or}
use Rattle.dump_io.specs.Laws.Puts.{HasPut-more, Puts-broken}
use Rattle.glance_text.specs.Holders.{stored_line}
use Rattle.glance_text.proofs.holder_report.put_all_stored.Goals as goal

pub loop-row-preserved : goal.loop-row-preserved
loop-row-preserved g c =
    let rows = c.args.rows.now in
    let i = c.loop-row.row-index in
    HasPut-more stored_line rows i _ (slice_get-get_or rows i _ c.loop-row-test.true) c.loop-row.invariant
    c.in_ok-put_stored.ensures

pub returns-in_err-put_stored : goal.returns-in_err-put_stored
returns-in_err-put_stored g c =
    let rows = c.args.rows.now in
    let i = c.loop-row.row-index in
    Puts-broken stored_line rows i _ (slice_get-get_or rows i _ c.loop-row-test.true) c.loop-row.invariant c.from_residual.ensures.0
    c.in_err-put_stored.ensures
