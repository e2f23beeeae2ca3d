use Rattle.dump_redact.proofs.Sections.{redacts-sections, redacts-lines, keeps-others}
use Rattle.dump_redact.proofs.laws.bodies_are_redacted.Goals as goal

pub returns-clause-sections : goal.returns-clause-sections
returns-clause-sections c = redacts-sections

pub returns-clause-lines : goal.returns-clause-lines
returns-clause-lines c = redacts-lines

pub returns-clause-others : goal.returns-clause-others
returns-clause-others c = keeps-others
