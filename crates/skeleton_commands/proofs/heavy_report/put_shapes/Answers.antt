use Rattle.std.proofs.Common.{arith}
use Rattle.dump_io.specs.Laws.Puts.{HasPut-more, HasPut-none, Puts-all, Puts-broken}
use Rattle.skeleton_commands.specs.Heavy.{shape_line}
use Rattle.skeleton_commands.proofs.heavy_report.put_shapes.Goals as goal

pub loop-i-init : goal.loop-i-init
loop-i-init g c = HasPut-none

pub loop-i-preserved : goal.loop-i-preserved
loop-i-preserved g c =
    HasPut-more shape_line c.args.levels.now.shapes c.loop-i.i _ c.shape.ensures c.loop-i.invariant c.in_ok-put_shape.ensures

pub returns-in_err-put_shape : goal.returns-in_err-put_shape
returns-in_err-put_shape g c =
    Puts-broken shape_line c.args.levels.now.shapes c.loop-i.i _ c.shape.ensures c.loop-i.invariant c.from_residual.ensures.0 c.in_err-put_shape.ensures

pub returns : goal.returns
returns g c = Puts-all shape_line c.args.levels.now.shapes c.loop-i.i (omega arith) c.loop-i.invariant
