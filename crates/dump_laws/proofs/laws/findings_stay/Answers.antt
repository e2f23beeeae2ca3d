use Rattle.dump_laws.proofs.SameHeaps.{keeps-processes, keeps-findings}
use Rattle.dump_laws.proofs.laws.findings_stay.Goals as goal

pub returns-clause-processes : goal.returns-clause-processes
returns-clause-processes c = keeps-processes c.sections_stay.ensures.sections c.bodies_are_redacted.ensures.sections c.bodies_are_redacted.ensures.others

pub returns-clause-findings : goal.returns-clause-findings
returns-clause-findings c =
    keeps-findings c.sections_stay.ensures.sections c.bodies_are_redacted.ensures.sections c.bodies_are_redacted.ensures.others
    c.sections_stay.ensures.state c.sections_stay.ensures.index
