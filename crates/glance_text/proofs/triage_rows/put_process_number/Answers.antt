use Rattle.std.proofs.Common.{decimal, ◌∷◌}
use Rattle.dump_io.specs.Laws.Puts.{Puts-as}
use Rattle.report_lines.specs.Lines.{line_of, tab}
use Rattle.glance_text.proofs.triage_rows.put_process_number.Goals as goal

pub returns : goal.returns
returns g c = Puts-as (λ i. line_of tab (c.args.word.now ∷ decimal (c.capped.ensures i) ∷ c.standing_end.ensures i)) c.put_line.ensures
