use Rattle.std.proofs.Common.{◌∙◌}
use Rattle.table_commands.proofs.audit.AuditReport.put.Goals as goal

pub returns-in-Lines : goal.returns-in-Lines
returns-in-Lines g c = rw c.in-Lines.is (rw (c.as_slice-found.ensures.value ∙ c.in_ok-findings.ensures.found) at c.put_lines.ensures)

pub returns-in-Json : goal.returns-in-Json
returns-in-Json g c = rw c.in-Json.is (rw (c.as_slice-found.ensures.value ∙ c.in_ok-findings.ensures.found) at c.put_json.ensures)

pub returns : goal.returns
returns g c = rw c.in-Settled.is (rw (c.as_slice-found.ensures.value ∙ c.in_ok-findings.ensures.found) at c.put_settled.ensures)
