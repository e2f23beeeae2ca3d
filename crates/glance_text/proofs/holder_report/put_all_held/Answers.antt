use Rattle.std.proofs.lemmas.Option.{slice_get-get_or}
use Rattle.dump_io.specs.Laws.Puts.{HasPut-more, Puts-broken}
use Rattle.glance_text.specs.Holders.{held_line}
use Rattle.glance_text.proofs.holder_report.put_all_held.Goals as goal

pub loop-held-preserved : goal.loop-held-preserved
loop-held-preserved g c =
    let line = held_line c.args.index.now c.args.procs.now.processes in
    let rows = c.args.rows.now in
    let i = c.loop-held.held-index in
    HasPut-more line rows i _ (slice_get-get_or rows i _ c.loop-held-test.true) c.loop-held.invariant c.in_ok-put_held.ensures

pub returns-in_err-put_held : goal.returns-in_err-put_held
returns-in_err-put_held g c =
    let line = held_line c.args.index.now c.args.procs.now.processes in
    let rows = c.args.rows.now in
    let i = c.loop-held.held-index in
    Puts-broken line rows i _ (slice_get-get_or rows i _ c.loop-held-test.true) c.loop-held.invariant c.from_residual.ensures.0
    c.in_err-put_held.ensures
