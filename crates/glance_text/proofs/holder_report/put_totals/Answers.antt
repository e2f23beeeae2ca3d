use Rattle.std.proofs.Common.{ap}
use Rattle.dump_io.specs.Laws.Puts.{Puts-as, Puts-then, Puts-stopped}
use Rattle.glance_text.specs.Holders.{stated_line}
use Rattle.glance_text.proofs.holder_report.put_totals.Goals as goal

pub returns-in_err-put_total : goal.returns-in_err-put_total
returns-in_err-put_total g c = Puts-stopped _ c.from_residual.ensures.0 c.in_err-put_total.ensures

pub returns-in_err-put_unstored : goal.returns-in_err-put_unstored
returns-in_err-put_unstored g c = Puts-then c.in_ok-put_total.ensures (Puts-stopped _ c.from_residual-in_err-put_unstored.ensures.0 c.in_err-put_unstored.ensures)

pub returns-in_err-put_total_line : goal.returns-in_err-put_total_line
returns-in_err-put_total_line g c =
    Puts-then c.in_ok-put_total.ensures (Puts-then c.in_ok-put_unstored.ensures
    (Puts-stopped _ c.from_residual-in_err-put_total_line.ensures.0 c.in_err-put_total_line.ensures))

pub returns : goal.returns
returns g c =
    Puts-then c.in_ok-put_total.ensures (Puts-then c.in_ok-put_unstored.ensures
    (Puts-then c.in_ok-put_total_line.ensures (Puts-as (ap stated_line c.stated_bytes.ensures) c.put_stated.ensures)))
