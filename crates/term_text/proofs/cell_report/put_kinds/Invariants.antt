use Rattle.std.proofs.Common.{take}
use Rattle.std.specs.List.{flat_map}
use Rattle.dump_io.specs.Sinks.{HasPut}
use Rattle.term_text.specs.Cells.{all_kinds, kind_line}
use Rattle.term_text.proofs.cell_report.put_kinds.Given as goal

-- the lines of the kinds so far are written
abbrev pub invariant-loop-kind : goal.invariant-loop-kind
invariant-loop-kind g l =
    HasPut (g.K.Sink.state l.initial.sink) (g.K.Sink.state l.sink) (flat_map (kind_line (take l.heap.own l.heap.cells)) (take l.kind-index all_kinds))
