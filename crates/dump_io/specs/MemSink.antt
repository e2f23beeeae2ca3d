-- A sink in memory.
use Rattle.std.specs.Prelude.{ℕ, ◌==◌, Bool, List, Some, min, if◌then◌else◌}
use Rattle.std.specs.List.{list_any}
use Rattle.dump_io.specs.Sinks.{SinkState}

-- what a sink in memory is at one time
pub record MemState : Type 0 where
  -- what was written
  pub written : List ℕ
  -- the most bytes that a write takes, or 0 if it takes the whole piece
  pub step : ℕ
  -- the numbers of the writes that fail
  pub fails : List ℕ
  -- how many writes were made
  pub writes : ℕ
  -- how many of the writes found no memory
  pub lacked : ℕ
  -- how often the sink has failed
  pub faults : ℕ

-- a sink in memory as a sink: it tells what was written
abbrev pub state_of : MemState → SinkState
state_of sink = record { written = Some sink.written; faults = sink.faults }

-- whether the last write was one of those that fail
abbrev pub is_failing : MemState → Bool
is_failing sink = list_any (λ number. number == sink.writes) sink.fails

-- how many bytes a write of a piece takes, from the step and the length of the piece
abbrev pub taken_by : ℕ → ℕ → ℕ
taken_by step length = if step == 0 then length else min step length
