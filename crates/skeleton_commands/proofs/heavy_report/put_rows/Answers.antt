use Rattle.std.proofs.Common.{arith}
use Rattle.dump_io.specs.Laws.Puts.{HasPut-more, HasPut-none, Puts-all, Puts-broken}
use Rattle.skeleton_commands.specs.Weights.{part_line}
use Rattle.skeleton_commands.proofs.heavy_report.put_rows.Goals as goal

pub loop-i-init : goal.loop-i-init
loop-i-init g c = HasPut-none

pub loop-i-preserved : goal.loop-i-preserved
loop-i-preserved g c =
    HasPut-more part_line c.args.level.now.rows c.loop-i.i _ c.row.ensures c.loop-i.invariant c.in_ok-put_part.ensures

pub returns-in_err-put_part : goal.returns-in_err-put_part
returns-in_err-put_part g c =
    Puts-broken part_line c.args.level.now.rows c.loop-i.i _ c.row.ensures c.loop-i.invariant c.from_residual.ensures.0 c.in_err-put_part.ensures

pub returns : goal.returns
returns g c = Puts-all part_line c.args.level.now.rows c.loop-i.i (omega arith) c.loop-i.invariant
