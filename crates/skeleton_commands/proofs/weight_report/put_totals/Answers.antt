use Rattle.dump_io.specs.Laws.Puts.{Puts-stopped, Puts-then}
use Rattle.skeleton_commands.proofs.weight_report.put_totals.Goals as goal

pub returns-in_err-put_shared : goal.returns-in_err-put_shared
returns-in_err-put_shared g c =
    Puts-then c.in_ok-put_within.ensures (Puts-stopped _ c.from_residual-in_err-put_shared.ensures.0 c.in_err-put_shared.ensures)

pub returns-in_err-put_reached : goal.returns-in_err-put_reached
returns-in_err-put_reached g c =
    Puts-then c.in_ok-put_within.ensures (Puts-then c.in_ok-put_shared.ensures (Puts-stopped _ c.from_residual-in_err-put_reached.ensures.0 c.in_err-put_reached.ensures))

pub returns-in_err-put_own : goal.returns-in_err-put_own
returns-in_err-put_own g c =
    Puts-then c.in_ok-put_within.ensures (Puts-then c.in_ok-put_shared.ensures (Puts-then c.in_ok-put_reached.ensures
    (Puts-stopped _ c.from_residual-in_err-put_own.ensures.0 c.in_err-put_own.ensures)))

pub returns : goal.returns
returns g c =
    Puts-then c.in_ok-put_within.ensures (Puts-then c.in_ok-put_shared.ensures (Puts-then c.in_ok-put_reached.ensures
    (Puts-then c.in_ok-put_own.ensures c.put_count.ensures)))
