use Rattle.std.proofs.Common.{ap}
use Rattle.dump_io.specs.Laws.Puts.{Puts-as, Puts-stopped, Puts-then}
use Rattle.skeleton_commands.specs.Heavy.{zero_lines}
use Rattle.skeleton_commands.proofs.heavy_report.put_heavy.Goals as goal

pub returns-in_err-put_zero : goal.returns-in_err-put_zero
returns-in_err-put_zero g c =
    Puts-stopped _ c.from_residual.ensures.0 (Puts-as (ap zero_lines c.zero.ensures) c.in_err-put_zero.ensures)

pub returns-in_err-put_below : goal.returns-in_err-put_below
returns-in_err-put_below g c =
    Puts-then (Puts-as (ap zero_lines c.zero.ensures) c.in_ok-put_zero.ensures)
    (Puts-stopped _ c.from_residual-in_err-put_below.ensures.0 c.in_err-put_below.ensures)

pub returns-in_err-put_shapes : goal.returns-in_err-put_shapes
returns-in_err-put_shapes g c =
    Puts-then (Puts-as (ap zero_lines c.zero.ensures) c.in_ok-put_zero.ensures)
    (Puts-then c.in_ok-put_below.ensures (Puts-stopped _ c.from_residual-in_err-put_shapes.ensures.0 c.in_err-put_shapes.ensures))

pub returns : goal.returns
returns g c =
    Puts-then (Puts-as (ap zero_lines c.zero.ensures) c.in_ok-put_zero.ensures)
    (Puts-then c.in_ok-put_below.ensures (Puts-then c.in_ok-put_shapes.ensures c.put_count.ensures))
