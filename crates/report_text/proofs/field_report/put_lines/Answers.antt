use Rattle.std.proofs.Common.{[], ◌++◌, sym, ◌∙◌, ap, subst}
use Rattle.std.specs.Prelude.{All}
use Rattle.std.specs.List.{flat_map}
use Rattle.std.proofs.lemmas.List.{append_assoc}
use Rattle.std.proofs.lemmas.List.Elements.{All-tail}
use Rattle.dump_io.specs.Laws.Puts.{HasPut-none, HasPut-then, Puts-behind, Puts-stopped, Puts-as}
use Rattle.field_lines.specs.Lines.{IsPart, text_lines}
use Rattle.field_lines.specs.Shown.{shown_line}
use Rattle.report_text.specs.Inner.Rows.{line_row}
use Rattle.report_text.proofs.RowTexts.{rows-told}
use Rattle.report_text.proofs.field_report.put_lines.Goals as goal

pub loop-line-init : goal.loop-line-init
loop-line-init g c =
    let base = c.args.base in
    let told = c.into_iter-line-iterator.ensures.into_iter_gives ∙ c.lines-line-items.ensures.value in (
      tt,
      tt,
      subst (All (IsPart c.args.body.now)) (sym c.into_iter-line-iterator.ensures.into_iter_gives) c.lines-line-items.ensures.parts,
      ([], HasPut-none, ap (flat_map (line_row base)) told ∙ rows-told base (text_lines c.args.body.now)),
    )

pub loop-line-preserved : goal.loop-line-preserved
loop-line-preserved g c =
    let line = shown_line c.in-Some.line in
    let rest = c.next.new.self in
    let row = line_row c.args.base in
    let so_far = c.loop-line.invariant.3 in (
      tt,
      tt,
      All-tail (IsPart c.args.body.now) line rest (subst (All (IsPart c.args.body.now)) c.in-Some.ensures.steps c.loop-line.invariant.2),
      (
        so_far.0 ++ row line,
        HasPut-then so_far.1 c.in_ok-put_row.ensures,
        append_assoc so_far.0 (row line) (flat_map row rest) ∙ ap (λ ls. so_far.0 ++ flat_map row ls) (sym c.in-Some.ensures.steps) ∙ so_far.2,
      ),
    )

pub returns-in_err-put_row : goal.returns-in_err-put_row
returns-in_err-put_row g c =
    let line = shown_line c.in-Some.line in
    let rest = c.next.new.self in
    let row = line_row c.args.base in
    let so_far = c.loop-line.invariant.3 in
    Puts-as (ap (λ ls. so_far.0 ++ flat_map row ls) (sym c.in-Some.ensures.steps) ∙ so_far.2)
    (Puts-behind so_far.1 (Puts-stopped (flat_map row rest) c.from_residual.ensures.0 c.in_err-put_row.ensures))
