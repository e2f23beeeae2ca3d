use Rattle.std.proofs.Common.{take}
use Rattle.std.specs.List.{enumerate_from, flat_map}
use Rattle.dump_io.specs.Sinks.{HasPut}
use Rattle.skeleton_commands.specs.Heavy.{level_lines}
use Rattle.skeleton_commands.proofs.heavy_report.put_below.Given as goal

-- the lines of the levels so far are written
abbrev pub invariant-loop-i : goal.invariant-loop-i
invariant-loop-i g l =
    HasPut (g.K.Sink.state l.initial.sink) (g.K.Sink.state l.sink) (flat_map level_lines (take l.i (enumerate_from 1 l.levels.below)))
