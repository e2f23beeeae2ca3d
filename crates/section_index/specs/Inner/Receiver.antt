-- What the receiver of the headers knows.
use Rattle.std.specs.Prelude.{◌≡◌, ℕ, ◌+◌, ◌<◌, ◌≤◌, List, length, Option, None, Some}
use Rattle.dump_io.specs.Limits.{Numbers}
use Rattle.dump_io.specs.Lines.{Header}
use Rattle.line_source.specs.declared.header_sink.HeaderStop.{HeaderStop}
use Rattle.line_source.specs.declared.header_sink.HeaderStop.TheVariants.{TooMany, PoolFull, Memory}
use Rattle.line_source.specs.declared.header_sink.RefusedHeader.{RefusedHeader}
use Rattle.section_index.specs.Opening.{text_bytes}

-- the headers that were heard, and the one that was refused, once there is one
pub record Hearing : Type 0 where
  pub heard : List Header
  pub stop : Option RefusedHeader

-- why a header was refused: there were as many headers as are allowed, or its text had no room
abbrev pub IsStopCause : Numbers → List Header → HeaderStop → ℕ → ℕ → Type 0
IsStopCause limits heard (TooMany place) at size = (place ≡ at) × (length heard ≡ limits.sections)
IsStopCause limits heard (PoolFull place) at size = (place ≡ at) × (length heard < limits.sections) × (limits.pool < text_bytes heard + size)
IsStopCause limits heard Memory at size = Unit {0}

-- if a header was refused, the cause for it holds
abbrev pub HasItsCause : Numbers → List Header → Option RefusedHeader → Type 0
HasItsCause limits heard None = Unit {0}
HasItsCause limits heard (Some refused) = IsStopCause limits heard refused.value refused.at refused.size

-- what was heard keeps to the limits, and a refusal has its cause
pub record KeepsTo (limits : Numbers) (hearing : Hearing) : Type 0 where
  pub sections : length hearing.heard ≤ limits.sections
  pub pool : text_bytes hearing.heard ≤ limits.pool
  pub stated : HasItsCause limits hearing.heard hearing.stop
