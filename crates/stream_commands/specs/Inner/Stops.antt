-- How `redact` ends.
use Rattle.dump_redact.specs.declared.faults.RedactFault.TheVariants as redact_faults
use Rattle.std.specs.Prelude.{Err, Ok, Result, ℕ}
use Rattle.report_text.specs.declared.refusals.Refusal.TheVariants.{SectionTooLarge}
use Rattle.dump_questions.specs.declared.stop.Stop.{Stop}
use Rattle.dump_redact.specs.declared.faults.RedactFault.{RedactFault}
use Rattle.dump_questions.specs.declared.stop.Stop.TheVariants.{NoMemory, NotRead, NotWritten, Refused}

-- the stop of `redact`
abbrev pub stop_of_redact : RedactFault → Stop
stop_of_redact (redact_faults.SectionTooLarge at len) = Refused (SectionTooLarge at len)
stop_of_redact redact_faults.Read = NotRead
stop_of_redact redact_faults.Write = NotWritten
stop_of_redact redact_faults.Memory = NoMemory

-- how `redact` ended
abbrev pub redact_end : Result (Unit {0}) RedactFault → Result ℕ Stop
redact_end (Ok written) = Ok 0
redact_end (Err fault) = Err (stop_of_redact fault)
