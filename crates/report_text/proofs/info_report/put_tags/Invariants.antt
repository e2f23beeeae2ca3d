use Rattle.std.proofs.Common.{take}
use Rattle.std.specs.List.{flat_map}
use Rattle.dump_io.specs.Sinks.{HasPut}
use Rattle.report_text.specs.Reports.{tag_line}
use Rattle.report_text.proofs.info_report.put_tags.Given as goal

-- the lines of the tags so far are written
abbrev pub invariant-loop-i : goal.invariant-loop-i
invariant-loop-i g l = HasPut (g.K.Sink.state l.initial.sink) (g.K.Sink.state l.sink) (flat_map tag_line (take l.i l.tags))
