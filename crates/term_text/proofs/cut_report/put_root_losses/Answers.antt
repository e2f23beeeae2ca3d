use Rattle.std.proofs.lemmas.Option.{slice_get-get_or}
use Rattle.dump_io.specs.Laws.Puts.{HasPut-more, Puts-broken}
use Rattle.term_text.specs.Cuts.{root_loss}
use Rattle.term_text.proofs.cut_report.put_root_losses.Goals as goal

pub loop-kind-preserved : goal.loop-kind-preserved
loop-kind-preserved g c =
    let kinds = c.args.kinds.now in
    let i = c.loop-kind.kind-index in
    HasPut-more (root_loss c.args.index.now c.args.pid.now) kinds i _ (slice_get-get_or kinds i _ c.loop-kind-test.true) c.loop-kind.invariant c.in_ok-put_root_loss.ensures

pub returns-in_err-put_root_loss : goal.returns-in_err-put_root_loss
returns-in_err-put_root_loss g c =
    let kinds = c.args.kinds.now in
    let i = c.loop-kind.kind-index in
    Puts-broken (root_loss c.args.index.now c.args.pid.now) kinds i _ (slice_get-get_or kinds i _ c.loop-kind-test.true) c.loop-kind.invariant c.from_residual.ensures.0
    c.in_err-put_root_loss.ensures
