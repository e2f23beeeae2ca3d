use Rattle.std.proofs.Common.{take}
use Rattle.std.specs.List.{flat_map}
use Rattle.dump_io.specs.Sinks.{HasPut}
use Rattle.section_rows.specs.Rows.{row_at}
use Rattle.report_text.specs.Inner.Rows.{next_cell}
use Rattle.report_text.proofs.table_report.put_cells.Given as goal

-- the cells so far are written
abbrev pub invariant-loop-c : goal.invariant-loop-c
invariant-loop-c g l =
    HasPut (g.K.Sink.state l.initial.sink) (g.K.Sink.state l.sink) (flat_map next_cell (take l.c (row_at l.rows.rows l.i).cells))
