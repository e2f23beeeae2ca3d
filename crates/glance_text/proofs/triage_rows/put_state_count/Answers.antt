use Rattle.std.proofs.Common.{codes, decimal, ◌∷◌, sym, ◌∙◌, ap}
use Rattle.std.specs.Prelude.{unwrap_or}
use Rattle.dump_io.specs.Laws.Puts.{Puts-as}
use Rattle.process_table.specs.Processes.{nobody}
use Rattle.report_lines.specs.Lines.{line_of, tab}
use Rattle.report_text.specs.Tables.{cell_text}
use Rattle.glance_text.proofs.triage_rows.put_state_count.Goals as goal

pub returns : goal.returns
returns g c =
    let state = c.text_of.ensures ∙ ap (λ o. cell_text (unwrap_or o nobody).state) (sym c.at-process.ensures) in
    Puts-as (λ i. line_of tab (codes "state" ∷ decimal (c.capped.ensures i) ∷ state i ∷ c.process_end.ensures i)) c.put_line.ensures
