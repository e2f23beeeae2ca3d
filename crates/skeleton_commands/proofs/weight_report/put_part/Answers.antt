use Rattle.dump_io.specs.Laws.Puts.{Puts-stopped, Puts-then}
use Rattle.skeleton_commands.proofs.weight_report.put_part.Goals as goal

pub returns-in_err-put_held : goal.returns-in_err-put_held
returns-in_err-put_held g c = Puts-stopped _ c.from_residual.ensures.0 c.in_err-put_held.ensures

pub returns : goal.returns
returns g c = Puts-then c.in_ok-put_held.ensures c.put_cell.ensures
