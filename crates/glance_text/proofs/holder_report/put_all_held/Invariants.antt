use Rattle.std.proofs.Common.{take}
use Rattle.std.specs.List.{flat_map}
use Rattle.dump_io.specs.Sinks.{HasPut}
use Rattle.glance_text.specs.Holders.{held_line}
use Rattle.glance_text.proofs.holder_report.put_all_held.Given as goal

-- the lines of the rows so far are written
abbrev pub invariant-loop-held : goal.invariant-loop-held
invariant-loop-held g l =
    HasPut (g.K.Sink.state l.initial.sink) (g.K.Sink.state l.sink)
    (flat_map (held_line l.index l.procs.processes) (take l.held-index l.rows))
