-- Copying sections from the device to the sink, redacted.
use Rattle.std.specs.Prelude.{ℕ, Result}
use Rattle.dump_io.specs.Dumps.{DeviceState}
use Rattle.dump_io.specs.Sinks.{SinkState}
use Rattle.dump_sections.specs.Index.{Contents}
use Rattle.dump_redact.specs.declared.faults.RedactFault.{RedactFault}
use Rattle.dump_redact.specs.Redacted.{redacted}
use Rattle.dump_redact.specs.Inner.Copying.{Copies}
use Rattle.dump_redact.specs.Inner.Places.{length_between, text_between}

-- the sections from one place up to another were copied, redacted
abbrev pub CopiesSections : {T : Type 0} → DeviceState → DeviceState → SinkState → SinkState → Contents → ℕ → ℕ → Result T RedactFault → Type 0
CopiesSections before after sink sink' index i next result =
    Copies before after sink sink' (length_between index i next) (λ dump. text_between index i next (redacted dump)) result
