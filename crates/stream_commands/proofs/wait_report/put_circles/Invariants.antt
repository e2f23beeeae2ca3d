use Rattle.std.proofs.Common.{[], take, if◌then◌else◌}
use Rattle.std.specs.Prelude.{nat_le}
use Rattle.std.specs.List.{flat_map}
use Rattle.dump_io.specs.Sinks.{HasPut}
use Rattle.stream_commands.specs.Waits.{circle_line}
use Rattle.stream_commands.specs.Inner.Waits.{awaiting}
use Rattle.stream_commands.proofs.wait_report.put_circles.Given as goal

-- the lines of those so far are written that stand on the first circles
abbrev pub invariant-loop-on : goal.invariant-loop-on
invariant-loop-on g l =
    HasPut (g.K.Sink.state l.initial.sink) (g.K.Sink.state l.sink)
    (flat_map (λ on. if nat_le on.circle l.most then circle_line (awaiting l.told) on else []) (take l.on-index l.on_circles))
