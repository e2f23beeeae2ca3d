use Rattle.std.proofs.Common.{take}
use Rattle.std.specs.List.{flat_map}
use Rattle.dump_io.specs.Sinks.{HasPut}
use Rattle.stream_commands.specs.Waits.{blocker_line}
use Rattle.stream_commands.specs.Inner.Waits.{awaiting}
use Rattle.stream_commands.proofs.wait_report.put_blockers.Given as goal

-- the lines of the targets so far are written
abbrev pub invariant-loop-blocker : goal.invariant-loop-blocker
invariant-loop-blocker g l = HasPut (g.K.Sink.state l.initial.sink) (g.K.Sink.state l.sink) (flat_map (blocker_line (awaiting l.told)) (take l.blocker-index l.blockers))
