use Rattle.std.proofs.Common.{arith}
use Rattle.dump_io.specs.Laws.Puts.{HasPut-more, HasPut-none, Puts-all, Puts-broken}
use Rattle.skeleton_commands.specs.Paths.{step_line}
use Rattle.skeleton_commands.proofs.path_report.put_steps.Goals as goal

pub loop-i-init : goal.loop-i-init
loop-i-init g c = HasPut-none

pub loop-i-preserved : goal.loop-i-preserved
loop-i-preserved g c =
    HasPut-more step_line c.args.way.now.lines c.loop-i.i _ c.line.ensures c.loop-i.invariant c.in_ok-put_step.ensures

pub returns-in_err-put_step : goal.returns-in_err-put_step
returns-in_err-put_step g c =
    Puts-broken step_line c.args.way.now.lines c.loop-i.i _ c.line.ensures c.loop-i.invariant c.from_residual.ensures.0 c.in_err-put_step.ensures

pub returns : goal.returns
returns g c = Puts-all step_line c.args.way.now.lines c.loop-i.i (omega arith) c.loop-i.invariant
