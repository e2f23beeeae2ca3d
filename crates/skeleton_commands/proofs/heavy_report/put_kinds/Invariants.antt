use Rattle.std.proofs.Common.{take}
use Rattle.std.specs.List.{flat_map}
use Rattle.dump_io.specs.Sinks.{HasPut}
use Rattle.skeleton_commands.specs.Heavy.{kind_line}
use Rattle.skeleton_commands.proofs.heavy_report.put_kinds.Given as goal

-- the lines of the kinds so far are written
abbrev pub invariant-loop-row : goal.invariant-loop-row
invariant-loop-row g l = HasPut (g.K.Sink.state l.initial.sink) (g.K.Sink.state l.sink) (flat_map kind_line (take l.row-index l.rows))
