use Rattle.std.proofs.lemmas.Option.{slice_get-get_or}
use Rattle.dump_io.specs.Laws.Puts.{HasPut-more, Puts-broken}
use Rattle.stream_commands.specs.Waits.{blocker_line}
use Rattle.stream_commands.specs.Inner.Waits.{awaiting}
use Rattle.stream_commands.proofs.wait_report.put_blockers.Goals as goal

pub loop-blocker-preserved : goal.loop-blocker-preserved
loop-blocker-preserved g c =
    let blockers = c.args.blockers.now in
    let i = c.loop-blocker.blocker-index in
    HasPut-more (blocker_line (awaiting c.args.told.now)) blockers i _ (slice_get-get_or blockers i _ c.loop-blocker-test.true) c.loop-blocker.invariant c.in_ok-put_blocker.ensures

pub returns-in_err-put_blocker : goal.returns-in_err-put_blocker
returns-in_err-put_blocker g c =
    let blockers = c.args.blockers.now in
    let i = c.loop-blocker.blocker-index in
    Puts-broken (blocker_line (awaiting c.args.told.now)) blockers i _ (slice_get-get_or blockers i _ c.loop-blocker-test.true) c.loop-blocker.invariant c.from_residual.ensures.0
    c.in_err-put_blocker.ensures
