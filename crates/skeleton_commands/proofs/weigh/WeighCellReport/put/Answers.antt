use Rattle.std.proofs.Common.{refl, Err}
use Rattle.dump_io.specs.Laws.Puts.{Puts-stopped, Puts-then}
use Rattle.dump_questions.specs.Laws.Reading.{Tells-put, Tells-stopped}
use Rattle.skeleton_commands.proofs.weigh.WeighCellReport.put.Goals as goal

pub returns-in_err-put_weights : goal.returns-in_err-put_weights
returns-in_err-put_weights g c =
    Tells-stopped 0 c.from_residual.result c.from_residual.ensures.1 (Puts-stopped {T = Unit {0}} {E = Unit {0}} {r = Err tt} _ refl c.in_err-put_weights.ensures)

pub returns-in_err-put_cuts : goal.returns-in_err-put_cuts
returns-in_err-put_cuts g c =
    Tells-stopped 0 c.from_residual-in_err-put_cuts.result c.from_residual-in_err-put_cuts.ensures.1 (Puts-then c.in_ok-put_weights.ensures c.in_err-put_cuts.ensures)

pub returns : goal.returns
returns g c = Tells-put (Puts-then c.in_ok-put_weights.ensures c.in_ok-put_cuts.ensures)
