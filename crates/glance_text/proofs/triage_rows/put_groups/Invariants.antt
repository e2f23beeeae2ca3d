use Rattle.std.proofs.Common.{take}
use Rattle.std.specs.List.{flat_map}
use Rattle.dump_io.specs.Sinks.{HasPut}
use Rattle.glance_text.specs.Triage.{group_line, standing}
use Rattle.glance_text.proofs.triage_rows.put_groups.Given as goal

-- the lines of the groups so far are written
abbrev pub invariant-loop-group : goal.invariant-loop-group
invariant-loop-group g l = HasPut (g.K.Sink.state l.initial.sink) (g.K.Sink.state l.sink) (flat_map (group_line (standing l.index l.procs.processes l.stands)) (take l.group-index l.groups))
