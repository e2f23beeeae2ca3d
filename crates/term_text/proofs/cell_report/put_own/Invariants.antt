use Rattle.std.proofs.Common.{take}
use Rattle.std.specs.List.{flat_map}
use Rattle.dump_io.specs.Sinks.{HasPut}
use Rattle.term_text.specs.Cells.{cell_line}
use Rattle.term_text.proofs.cell_report.put_own.Given as goal

-- the lines of the cells so far are written
abbrev pub invariant-loop-n : goal.invariant-loop-n
invariant-loop-n g l =
    HasPut (g.K.Sink.state l.initial.sink) (g.K.Sink.state l.sink) (flat_map cell_line (take l.n (take l.heap.own l.heap.cells)))
