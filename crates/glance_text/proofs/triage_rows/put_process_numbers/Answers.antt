use Rattle.std.proofs.lemmas.Option.{slice_get-get_or}
use Rattle.dump_io.specs.Laws.Puts.{HasPut-more, Puts-broken}
use Rattle.glance_text.specs.Triage.{process_number_line, standing}
use Rattle.glance_text.proofs.triage_rows.put_process_numbers.Goals as goal

pub loop-row-preserved : goal.loop-row-preserved
loop-row-preserved g c =
    let rows = c.args.rows.now in
    let i = c.loop-row.row-index in
    HasPut-more (process_number_line c.args.word.now (standing c.args.index.now c.args.procs.now.processes c.args.stands.now)) rows i _ (slice_get-get_or rows i _ c.loop-row-test.true) c.loop-row.invariant c.in_ok-put_process_number.ensures

pub returns-in_err-put_process_number : goal.returns-in_err-put_process_number
returns-in_err-put_process_number g c =
    let rows = c.args.rows.now in
    let i = c.loop-row.row-index in
    Puts-broken (process_number_line c.args.word.now (standing c.args.index.now c.args.procs.now.processes c.args.stands.now)) rows i _ (slice_get-get_or rows i _ c.loop-row-test.true) c.loop-row.invariant c.from_residual.ensures.0 c.in_err-put_process_number.ensures
