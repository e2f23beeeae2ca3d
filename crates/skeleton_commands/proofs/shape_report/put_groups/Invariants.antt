use Rattle.std.proofs.Common.{take}
use Rattle.std.specs.List.{flat_map}
use Rattle.dump_io.specs.Sinks.{HasPut}
use Rattle.skeleton_commands.specs.Shapes.{shape_line}
use Rattle.skeleton_commands.proofs.shape_report.put_groups.Given as goal

-- the lines of the groups so far are written
abbrev pub invariant-loop-group : goal.invariant-loop-group
invariant-loop-group g l = HasPut (g.K.Sink.state l.initial.sink) (g.K.Sink.state l.sink) (flat_map (shape_line l.shapes.messages) (take l.group-index l.groups))
