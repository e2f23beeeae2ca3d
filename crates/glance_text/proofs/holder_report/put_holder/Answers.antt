use Rattle.std.proofs.Common.{decimal, [], ◌∷◌, ◌++◌, ap}
use Rattle.dump_io.specs.Laws.Puts.{Puts-as}
use Rattle.dump_io.specs.Numbers.{hexadecimal}
use Rattle.report_lines.specs.Lines.{line_of, tab}
use Rattle.glance_text.proofs.holder_report.put_holder.Goals as goal

pub returns : goal.returns
returns g c =
    let held = c.args.held.now in
    Puts-as (ap (λ parts. line_of tab (decimal held.cells ∷ (parts ++ hexadecimal held.first ∷ []))) c.process_end.ensures) c.put_line.ensures
