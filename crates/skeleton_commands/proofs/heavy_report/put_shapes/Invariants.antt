use Rattle.std.proofs.Common.{take}
use Rattle.std.specs.List.{flat_map}
use Rattle.dump_io.specs.Sinks.{HasPut}
use Rattle.skeleton_commands.specs.Heavy.{shape_line}
use Rattle.skeleton_commands.proofs.heavy_report.put_shapes.Given as goal

-- the lines of the shapes so far are written
abbrev pub invariant-loop-i : goal.invariant-loop-i
invariant-loop-i g l = HasPut (g.K.Sink.state l.initial.sink) (g.K.Sink.state l.sink) (flat_map shape_line (take l.i l.levels.shapes))
