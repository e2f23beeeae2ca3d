use Rattle.std.proofs.Common.{codes, decimal, ◌∷◌}
use Rattle.dump_io.specs.Laws.Puts.{Puts-as}
use Rattle.report_lines.specs.Lines.{line_of, tab}
use Rattle.glance_text.proofs.holder_report.put_held.Goals as goal

pub returns : goal.returns
returns g c =
    let held = c.args.held.now in
    Puts-as (λ i. line_of tab (codes "held" ∷ decimal (c.capped.ensures i) ∷ decimal held.bytes ∷ decimal held.count ∷ decimal held.lines ∷ c.process_end.ensures i)) c.put_line.ensures
