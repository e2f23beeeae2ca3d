use Rattle.std.proofs.Common.{◌≡◌, ℕ, List, ◌++◌, filter}
use Rattle.std.specs.Prelude.{All}
use Rattle.std.specs.List.{flat_map}
use Rattle.dump_io.specs.Sinks.{HasPut}
use Rattle.field_lines.specs.Lines.{IsPart, text_lines}
use Rattle.report_text.specs.Inner.Rows.{line_row}
use Rattle.report_text.specs.Tables.{field_line, has_row}
use Rattle.report_text.proofs.field_report.put_lines.Given as goal

-- the rows of the lines so far are written, and those of the lines that are left come behind them
abbrev pub invariant-loop-line : goal.invariant-loop-line
invariant-loop-line g l =
    (goal.iterator-loop-line g).can_next l.line-iterator
    × (goal.iterator-loop-line g).is_finite l.line-iterator
    × All (IsPart l.body) l.line-iterator
    × ((written : List ℕ) × HasPut (g.K.Sink.state l.initial.sink) (g.K.Sink.state l.sink) written
    × (written ++ flat_map (line_row l.base) l.line-iterator ≡ flat_map (field_line l.base) (filter has_row (text_lines l.body))))
