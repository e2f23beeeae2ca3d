use Rattle.std.proofs.Common.{take}
use Rattle.std.specs.List.{flat_map, range_with_len}
use Rattle.dump_io.specs.Sinks.{HasPut}
use Rattle.stream_commands.specs.Waits.{wait_lines_at}
use Rattle.stream_commands.specs.Inner.Waits.{awaiting, told_count}
use Rattle.stream_commands.proofs.wait_report.put_waiting.Given as goal

-- the lines of the processes so far are written
abbrev pub invariant-loop-p : goal.invariant-loop-p
invariant-loop-p g l =
    HasPut (g.K.Sink.state l.initial.sink) (g.K.Sink.state l.sink) (flat_map (wait_lines_at (awaiting l.told)) (take l.p (range_with_len 0 (told_count l.told))))
