use Rattle.std.proofs.Common.{arith}
use Rattle.std.specs.List.{range_with_len}
use Rattle.std.proofs.lemmas.List.FromFn.{length-range_with_len}
use Rattle.dump_io.specs.Laws.Puts.{HasPut-more, HasPut-none, Puts-all, Puts-broken}
use Rattle.stream_commands.specs.Waits.{wait_lines_at}
use Rattle.stream_commands.specs.Inner.Waits.{awaiting, told_count}
use Rattle.stream_commands.proofs.WaitFacts.{range-at}
use Rattle.stream_commands.proofs.wait_report.put_waiting.Goals as goal

pub loop-p-init : goal.loop-p-init
loop-p-init g c = HasPut-none

pub loop-p-preserved : goal.loop-p-preserved
loop-p-preserved g c =
    let count = told_count c.args.told.now in
    HasPut-more (wait_lines_at (awaiting c.args.told.now)) (range_with_len 0 count) c.loop-p.p _ (range-at count c.loop-p.p (omega arith)) c.loop-p.invariant c.in_ok-put_wait_at.ensures

pub returns-in_err-put_wait_at : goal.returns-in_err-put_wait_at
returns-in_err-put_wait_at g c =
    let count = told_count c.args.told.now in
    Puts-broken (wait_lines_at (awaiting c.args.told.now)) (range_with_len 0 count) c.loop-p.p _ (range-at count c.loop-p.p (omega arith)) c.loop-p.invariant c.from_residual.ensures.0
    c.in_err-put_wait_at.ensures

pub returns : goal.returns
returns g c =
    let count = told_count c.args.told.now in
    Puts-all (wait_lines_at (awaiting c.args.told.now)) (range_with_len 0 count) c.loop-p.p (omega (arith, length-range_with_len 0 count)) c.loop-p.invariant
