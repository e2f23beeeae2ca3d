use Rattle.std.proofs.Common.{ap}
use Rattle.dump_sections.specs.Index.{dump_state}
use Rattle.dump_redact.proofs.Alike.{keeps-length, keeps-headers, keeps-sections, keeps-index}
use Rattle.dump_redact.proofs.laws.sections_stay.Goals as goal

pub returns-clause-length : goal.returns-clause-length
returns-clause-length c = keeps-length

pub returns-clause-sections : goal.returns-clause-sections
returns-clause-sections c = keeps-sections

pub returns-clause-state : goal.returns-clause-state
returns-clause-state c = λ bytes. ap dump_state (keeps-headers bytes)

pub returns-clause-index : goal.returns-clause-index
returns-clause-index c = keeps-index
