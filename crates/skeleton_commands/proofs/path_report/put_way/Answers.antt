use Rattle.dump_io.specs.Laws.Puts.{Puts-stopped, Puts-then}
use Rattle.skeleton_commands.proofs.path_report.put_way.Goals as goal

pub returns-in_err-put_root : goal.returns-in_err-put_root
returns-in_err-put_root g c = Puts-stopped _ c.from_residual.ensures.0 c.in_err-put_root.ensures

pub returns-in_err-put_steps : goal.returns-in_err-put_steps
returns-in_err-put_steps g c =
    Puts-then c.in_ok-put_root.ensures (Puts-stopped _ c.from_residual-in_err-put_steps.ensures.0 c.in_err-put_steps.ensures)

pub returns : goal.returns
returns g c = Puts-then c.in_ok-put_root.ensures (Puts-then c.in_ok-put_steps.ensures c.put_depth.ensures)
