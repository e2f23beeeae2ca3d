use Rattle.std.proofs.lemmas.Option.{slice_get-get_or}
use Rattle.dump_io.specs.Laws.Puts.{HasPut-more, Puts-broken}
use Rattle.glance_text.specs.Triage.{table_bytes_line}
use Rattle.glance_text.proofs.triage_rows.put_tables.Goals as goal

pub loop-row-preserved : goal.loop-row-preserved
loop-row-preserved g c =
    let rows = c.args.rows.now in
    let i = c.loop-row.row-index in
    HasPut-more (table_bytes_line c.args.procs.now.processes c.args.tables.now.rows) rows i _ (slice_get-get_or rows i _ c.loop-row-test.true) c.loop-row.invariant c.in_ok-put_table_bytes.ensures

pub returns-in_err-put_table_bytes : goal.returns-in_err-put_table_bytes
returns-in_err-put_table_bytes g c =
    let rows = c.args.rows.now in
    let i = c.loop-row.row-index in
    Puts-broken (table_bytes_line c.args.procs.now.processes c.args.tables.now.rows) rows i _ (slice_get-get_or rows i _ c.loop-row-test.true) c.loop-row.invariant c.from_residual.ensures.0 c.in_err-put_table_bytes.ensures
