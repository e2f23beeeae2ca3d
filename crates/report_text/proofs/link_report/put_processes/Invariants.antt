use Rattle.std.proofs.Common.{take}
use Rattle.std.specs.List.{flat_map}
use Rattle.dump_io.specs.Sinks.{HasPut}
use Rattle.report_text.specs.Links.{process_links}
use Rattle.report_text.proofs.link_report.put_processes.Given as goal

-- the lines of the processes so far are written
abbrev pub invariant-loop-p : goal.invariant-loop-p
invariant-loop-p g l = HasPut (g.K.Sink.state l.initial.sink) (g.K.Sink.state l.sink) (flat_map process_links (take l.p l.procs.processes))
