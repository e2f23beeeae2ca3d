use Rattle.std.proofs.Common.{◌∙◌, sym, ap}
use Rattle.std.specs.Prelude.{unwrap_or}
use Rattle.process_table.specs.Processes.{nobody}
use Rattle.dump_triage.specs.Triage.{process_state_text}
use Rattle.dump_triage.proofs.states.state_at.Goals as goal

pub returns : goal.returns
returns c = c.state_text.ensures ∙ sym (ap (λ o. process_state_text (unwrap_or o nobody)) c.at-process.ensures)
