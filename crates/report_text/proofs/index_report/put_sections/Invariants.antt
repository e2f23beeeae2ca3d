use Rattle.std.proofs.Common.{take}
use Rattle.std.specs.List.{flat_map}
use Rattle.dump_io.specs.Sinks.{HasPut}
use Rattle.dump_sections.specs.Index.{sections_in}
use Rattle.report_text.specs.Reports.{section_line}
use Rattle.report_text.proofs.index_report.put_sections.Given as goal

-- the lines of the sections so far are written
abbrev pub invariant-loop-i : goal.invariant-loop-i
invariant-loop-i g l = HasPut (g.K.Sink.state l.initial.sink) (g.K.Sink.state l.sink) (flat_map section_line (take l.i (sections_in l.index)))
