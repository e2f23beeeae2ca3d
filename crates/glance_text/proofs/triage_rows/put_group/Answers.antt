use Rattle.std.proofs.Common.{codes, decimal, ◌∷◌}
use Rattle.dump_io.specs.Laws.Puts.{Puts-as}
use Rattle.report_lines.specs.Lines.{line_of, tab}
use Rattle.glance_text.proofs.triage_rows.put_group.Goals as goal

pub returns : goal.returns
returns g c =
    let group = c.args.group.now in
    Puts-as (λ i. line_of tab (codes "group" ∷ decimal group.count ∷ decimal group.weight ∷ c.standing_end.ensures i)) c.put_line.ensures
