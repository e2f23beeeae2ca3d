use Rattle.std.proofs.Common.{take}
use Rattle.std.specs.List.{flat_map}
use Rattle.dump_io.specs.Sinks.{HasPut}
use Rattle.glance_text.specs.Triage.{state_count_line}
use Rattle.glance_text.proofs.triage_rows.put_states.Given as goal

-- the lines of the rows so far are written
abbrev pub invariant-loop-row : goal.invariant-loop-row
invariant-loop-row g l = HasPut (g.K.Sink.state l.initial.sink) (g.K.Sink.state l.sink) (flat_map (state_count_line l.index l.procs.processes) (take l.row-index l.rows))
