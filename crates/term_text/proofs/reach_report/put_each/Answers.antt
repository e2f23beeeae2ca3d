use Rattle.std.proofs.lemmas.Option.{slice_get-get_or}
use Rattle.dump_io.specs.Laws.Puts.{HasPut-more, Puts-broken}
use Rattle.term_text.specs.Reach.{unreached_line}
use Rattle.term_text.proofs.reach_report.put_each.Goals as goal

pub loop-addr-preserved : goal.loop-addr-preserved
loop-addr-preserved g c =
    let unreached = c.args.unreached.now in
    let i = c.loop-addr.addr-index in
    HasPut-more unreached_line unreached i _ (slice_get-get_or unreached i _ c.loop-addr-test.true) c.loop-addr.invariant c.in_ok-put_unreached.ensures

pub returns-in_err-put_unreached : goal.returns-in_err-put_unreached
returns-in_err-put_unreached g c =
    let unreached = c.args.unreached.now in
    let i = c.loop-addr.addr-index in
    Puts-broken unreached_line unreached i _ (slice_get-get_or unreached i _ c.loop-addr-test.true) c.loop-addr.invariant c.from_residual.ensures.0 c.in_err-put_unreached.ensures
