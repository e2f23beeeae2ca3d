-- Why a JSON text isn't written, and what was written by then.
use Rattle.std.specs.Prelude.{◌≡◌, ℕ, List}
use Rattle.dump_io.specs.Sinks.{SinkState, IsKept, GainedFront, SinkFailed}
use Rattle.json_report.specs.declared.putting.JsonFault.{JsonFault}
use Rattle.json_report.specs.declared.putting.JsonFault.TheVariants.{Write, Memory}

-- a write failed, and a proper prefix of the text was written; or memory was lacking, and nothing was written
abbrev pub IsFaultOf : SinkState → SinkState → List ℕ → JsonFault → Type 0
IsFaultOf before after text Write = SinkFailed before after × GainedFront before after text
IsFaultOf before after text Memory = IsKept before after × (after.faults ≡ before.faults)
