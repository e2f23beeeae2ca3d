use Rattle.dump_io.specs.Laws.Puts.{Puts-then, Puts-stopped}
use Rattle.glance_text.proofs.triage_report.put_finding_counts.Goals as goal

pub returns-in_err-put_finding_count-2 : goal.returns-in_err-put_finding_count-2
returns-in_err-put_finding_count-2 g c =
    Puts-then c.in_ok-put_finding_count.ensures (Puts-stopped _ c.from_residual-in_err-put_finding_count-2.ensures.0 c.in_err-put_finding_count-2.ensures)

pub returns-in_err-put_finding_count-3 : goal.returns-in_err-put_finding_count-3
returns-in_err-put_finding_count-3 g c =
    Puts-then c.in_ok-put_finding_count.ensures (Puts-then c.in_ok-put_finding_count-2.ensures
    (Puts-stopped _ c.from_residual-in_err-put_finding_count-3.ensures.0 c.in_err-put_finding_count-3.ensures))

pub returns-in_err-put_finding_count-4 : goal.returns-in_err-put_finding_count-4
returns-in_err-put_finding_count-4 g c =
    Puts-then c.in_ok-put_finding_count.ensures (Puts-then c.in_ok-put_finding_count-2.ensures (Puts-then c.in_ok-put_finding_count-3.ensures
    (Puts-stopped _ c.from_residual-in_err-put_finding_count-4.ensures.0 c.in_err-put_finding_count-4.ensures)))

pub returns : goal.returns
returns g c =
    Puts-then c.in_ok-put_finding_count.ensures (Puts-then c.in_ok-put_finding_count-2.ensures (Puts-then c.in_ok-put_finding_count-3.ensures
    (Puts-then c.in_ok-put_finding_count-4.ensures c.put_finding_count-5.ensures)))
