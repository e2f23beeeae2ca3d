use Rattle.dump_io.specs.Laws.Puts.{Puts-as, Puts-then, Puts-stopped}
use Rattle.glance_text.specs.Triage.{finding_counts}
use Rattle.glance_text.proofs.triage_report.put_triage.Goals as goal

pub returns-in_err-put_node : goal.returns-in_err-put_node
returns-in_err-put_node g c = Puts-stopped _ c.from_residual.ensures.0 c.in_err-put_node.ensures

pub returns-in_err-put_group_lines : goal.returns-in_err-put_group_lines
returns-in_err-put_group_lines g c =
    Puts-then c.in_ok-put_node.ensures (Puts-stopped _ c.from_residual-in_err-put_group_lines.ensures.0 c.in_err-put_group_lines.ensures)

pub returns-in_err-put_process_lines : goal.returns-in_err-put_process_lines
returns-in_err-put_process_lines g c =
    Puts-then c.in_ok-put_node.ensures (Puts-then c.in_ok-put_group_lines.ensures
    (Puts-stopped _ c.from_residual-in_err-put_process_lines.ensures.0 c.in_err-put_process_lines.ensures))

pub returns-in_err-put_table_lines : goal.returns-in_err-put_table_lines
returns-in_err-put_table_lines g c =
    Puts-then c.in_ok-put_node.ensures (Puts-then c.in_ok-put_group_lines.ensures (Puts-then c.in_ok-put_process_lines.ensures
    (Puts-stopped _ c.from_residual-in_err-put_table_lines.ensures.0 c.in_err-put_table_lines.ensures)))

pub returns-in_err-put_finding_counts : goal.returns-in_err-put_finding_counts
returns-in_err-put_finding_counts g c =
    Puts-then c.in_ok-put_node.ensures (Puts-then c.in_ok-put_group_lines.ensures (Puts-then c.in_ok-put_process_lines.ensures (Puts-then c.in_ok-put_table_lines.ensures
    (Puts-stopped _ c.from_residual-in_err-put_finding_counts.ensures.0 (Puts-as (λ i. finding_counts (c.findings.ensures i) (c.in_flight.ensures i)) c.in_err-put_finding_counts.ensures)))))

pub returns-in_err-put_last_lines : goal.returns-in_err-put_last_lines
returns-in_err-put_last_lines g c =
    Puts-then c.in_ok-put_node.ensures (Puts-then c.in_ok-put_group_lines.ensures (Puts-then c.in_ok-put_process_lines.ensures (Puts-then c.in_ok-put_table_lines.ensures
    (Puts-then (Puts-as (λ i. finding_counts (c.findings.ensures i) (c.in_flight.ensures i)) c.in_ok-put_finding_counts.ensures) (Puts-stopped _ c.from_residual-in_err-put_last_lines.ensures.0 c.in_err-put_last_lines.ensures)))))

pub returns : goal.returns
returns g c =
    Puts-then c.in_ok-put_node.ensures (Puts-then c.in_ok-put_group_lines.ensures (Puts-then c.in_ok-put_process_lines.ensures (Puts-then c.in_ok-put_table_lines.ensures
    (Puts-then (Puts-as (λ i. finding_counts (c.findings.ensures i) (c.in_flight.ensures i)) c.in_ok-put_finding_counts.ensures) (Puts-then c.in_ok-put_last_lines.ensures c.put_state.ensures)))))
