use Rattle.std.proofs.Common.{take}
use Rattle.std.specs.List.{flat_map}
use Rattle.dump_io.specs.Sinks.{HasPut}
use Rattle.link_graph.specs.Lists.{links_at}
use Rattle.report_text.specs.Links.{entry_line}
use Rattle.report_text.proofs.link_report.put_entries.Given as goal

-- the lines of the entries so far are written
abbrev pub invariant-loop-n : goal.invariant-loop-n
invariant-loop-n g l =
    HasPut (g.K.Sink.state l.initial.sink) (g.K.Sink.state l.sink) (flat_map (entry_line l.pid) (take l.n (links_at l.graph l.p).entries))
