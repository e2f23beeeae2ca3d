use Rattle.std.proofs.Common.{take}
use Rattle.std.specs.List.{flat_map}
use Rattle.dump_io.specs.Sinks.{HasPut}
use Rattle.skeleton_commands.specs.Weights.{part_line}
use Rattle.skeleton_commands.proofs.weight_report.put_parts.Given as goal

-- the lines of the parts so far are written
abbrev pub invariant-loop-i : goal.invariant-loop-i
invariant-loop-i g l = HasPut (g.K.Sink.state l.initial.sink) (g.K.Sink.state l.sink) (flat_map part_line (take l.i (take l.most l.weights.rows)))
