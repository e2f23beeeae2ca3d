use Rattle.dump_io.specs.Laws.Puts.{Puts-then, Puts-stopped}
use Rattle.table_commands.proofs.audit_report.put_findings.Goals as goal

pub returns-in_err-put_total_line : goal.returns-in_err-put_total_line
returns-in_err-put_total_line g c =
    Puts-then c.in_ok-put_all.ensures (Puts-stopped _ c.from_residual-in_err-put_total_line.ensures.0 c.in_err-put_total_line.ensures)

pub returns-in_err-put_flight : goal.returns-in_err-put_flight
returns-in_err-put_flight g c =
    Puts-then c.in_ok-put_all.ensures (Puts-then c.in_ok-put_total_line.ensures
    (Puts-stopped _ c.from_residual-in_err-put_flight.ensures.0 c.in_err-put_flight.ensures))

pub returns : goal.returns
returns g c = Puts-then c.in_ok-put_all.ensures (Puts-then c.in_ok-put_total_line.ensures (Puts-then c.in_ok-put_flight.ensures c.put_state.ensures))
