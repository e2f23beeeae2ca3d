use Rattle.std.proofs.lemmas.Option.{slice_get-get_or}
use Rattle.dump_io.specs.Laws.Puts.{HasPut-more, Puts-broken}
use Rattle.glance_text.specs.Holders.{holder_line}
use Rattle.glance_text.proofs.holder_report.put_each.Goals as goal

pub loop-held-preserved : goal.loop-held-preserved
loop-held-preserved g c =
    let line = holder_line c.args.index.now c.args.procs.now.processes in
    let rows = c.args.rows.now in
    let i = c.loop-held.held-index in
    HasPut-more line rows i _ (slice_get-get_or rows i _ c.loop-held-test.true) c.loop-held.invariant c.in_ok-put_holder.ensures

pub returns-in_err-put_holder : goal.returns-in_err-put_holder
returns-in_err-put_holder g c =
    let line = holder_line c.args.index.now c.args.procs.now.processes in
    let rows = c.args.rows.now in
    let i = c.loop-held.held-index in
    Puts-broken line rows i _ (slice_get-get_or rows i _ c.loop-held-test.true) c.loop-held.invariant c.from_residual.ensures.0
    c.in_err-put_holder.ensures
