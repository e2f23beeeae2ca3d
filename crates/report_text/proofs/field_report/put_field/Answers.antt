use Rattle.std.proofs.Common.{◌+◌, ◌∷◌, decimal, ap}
use Rattle.dump_io.specs.Laws.Puts.{Puts-as}
use Rattle.report_lines.specs.Lines.{line_of, tab}
use Rattle.report_text.proofs.field_report.put_field.Goals as goal

pub returns : goal.returns
returns g c =
    Puts-as (ap (λ columns. line_of tab (decimal (c.args.base + c.args.line.now.at) ∷ columns)) c.columns.ensures) c.put_line.ensures
