use Rattle.std.proofs.Common.{take}
use Rattle.std.specs.List.{flat_map}
use Rattle.dump_io.specs.Sinks.{HasPut}
use Rattle.table_commands.specs.Findings.{finding_line}
use Rattle.table_commands.proofs.audit_report.put_all.Given as goal

-- the lines of the findings so far are written
abbrev pub invariant-loop-finding : goal.invariant-loop-finding
invariant-loop-finding g l =
    HasPut (g.K.Sink.state l.initial.sink) (g.K.Sink.state l.sink) (flat_map (finding_line l.procs.processes) (take l.finding-index l.findings))
