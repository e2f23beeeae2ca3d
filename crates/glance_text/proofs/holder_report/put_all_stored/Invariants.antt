use Rattle.std.proofs.Common.{take}
use Rattle.std.specs.List.{flat_map}
use Rattle.dump_io.specs.Sinks.{HasPut}
use Rattle.glance_text.specs.Holders.{stored_line}
use Rattle.glance_text.proofs.holder_report.put_all_stored.Given as goal

-- the lines of the rows so far are written
abbrev pub invariant-loop-row : goal.invariant-loop-row
invariant-loop-row g l =
    HasPut (g.K.Sink.state l.initial.sink) (g.K.Sink.state l.sink) (flat_map stored_line (take l.row-index l.rows))
