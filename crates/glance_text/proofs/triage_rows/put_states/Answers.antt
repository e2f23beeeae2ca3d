use Rattle.std.proofs.lemmas.Option.{slice_get-get_or}
use Rattle.dump_io.specs.Laws.Puts.{HasPut-more, Puts-broken}
use Rattle.glance_text.specs.Triage.{state_count_line}
use Rattle.glance_text.proofs.triage_rows.put_states.Goals as goal

pub loop-row-preserved : goal.loop-row-preserved
loop-row-preserved g c =
    let rows = c.args.rows.now in
    let i = c.loop-row.row-index in
    HasPut-more (state_count_line c.args.index.now c.args.procs.now.processes) rows i _ (slice_get-get_or rows i _ c.loop-row-test.true) c.loop-row.invariant c.in_ok-put_state_count.ensures

pub returns-in_err-put_state_count : goal.returns-in_err-put_state_count
returns-in_err-put_state_count g c =
    let rows = c.args.rows.now in
    let i = c.loop-row.row-index in
    Puts-broken (state_count_line c.args.index.now c.args.procs.now.processes) rows i _ (slice_get-get_or rows i _ c.loop-row-test.true) c.loop-row.invariant c.from_residual.ensures.0 c.in_err-put_state_count.ensures
