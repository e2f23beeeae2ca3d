use Rattle.std.proofs.Common.{◌∷◌, ◌∙◌, ap, codes, decimal}
use Rattle.dump_io.specs.Laws.Puts.{Puts-as}
use Rattle.report_lines.specs.Lines.{line_of, tab}
use Rattle.stream_commands.specs.Waits.{target_parts}
use Rattle.stream_commands.specs.Inner.Waits.{awaiting}
use Rattle.stream_commands.proofs.wait_report.put_blocker.Goals as goal

pub returns : goal.returns
returns g c =
    let whom = c.target_parts.ensures ∙ ap (target_parts (awaiting c.args.told.now)) c.first_target.ensures in
    Puts-as (λ i. line_of tab (codes "blocker" ∷ decimal (c.from.ensures i) ∷ decimal (c.from-2.ensures i) ∷ whom i)) c.put_line.ensures
