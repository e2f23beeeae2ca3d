use Rattle.std.proofs.Common.{arith}
use Rattle.std.specs.List.{enumerate_from}
use Rattle.std.proofs.lemmas.List.FromFn.{length-enumerate_from}
use Rattle.dump_io.specs.Laws.Puts.{HasPut-more, HasPut-none, Puts-all, Puts-broken}
use Rattle.skeleton_commands.specs.Heavy.{level_lines}
use Rattle.skeleton_commands.proofs.RowFacts.{numbered-at}
use Rattle.skeleton_commands.proofs.heavy_report.put_below.Goals as goal

pub loop-i-init : goal.loop-i-init
loop-i-init g c = HasPut-none

pub loop-i-preserved : goal.loop-i-preserved
loop-i-preserved g c =
    let below = c.args.levels.now.below in
    HasPut-more level_lines (enumerate_from 1 below) c.loop-i.i _ (numbered-at 1 below c.loop-i.i _ c.level.ensures) c.loop-i.invariant c.in_ok-put_level.ensures

pub returns-in_err-put_level : goal.returns-in_err-put_level
returns-in_err-put_level g c =
    let below = c.args.levels.now.below in
    Puts-broken level_lines (enumerate_from 1 below) c.loop-i.i _ (numbered-at 1 below c.loop-i.i _ c.level.ensures) c.loop-i.invariant
    c.from_residual.ensures.0 c.in_err-put_level.ensures

pub returns : goal.returns
returns g c =
    let below = c.args.levels.now.below in
    Puts-all level_lines (enumerate_from 1 below) c.loop-i.i (omega (arith, length-enumerate_from 1 below)) c.loop-i.invariant
