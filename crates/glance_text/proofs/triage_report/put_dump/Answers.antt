use Rattle.std.proofs.Common.{◌++◌, sym, ◌∙◌, ap}
use Rattle.std.specs.List.{flat_map}
use Rattle.std.proofs.lemmas.List.{append_assoc}
use Rattle.dump_io.specs.Laws.Puts.{HasPut-then, Puts-behind, Puts-stopped, Puts-as}
use Rattle.field_lines.specs.Shown.{shown_line}
use Rattle.glance_text.specs.Triage.{dump_line}
use Rattle.glance_text.proofs.triage_report.put_dump.Goals as goal

pub loop-line-preserved : goal.loop-line-preserved
loop-line-preserved g c =
    let shown = dump_line c.find-slogan.result in
    let line = shown_line c.in-Some.line in
    let rest = c.next.new.self in
    let so_far = c.loop-line.invariant.2 in (
      tt,
      tt,
      (
        so_far.0 ++ shown line,
        HasPut-then so_far.1 c.in_ok-put_dump_line.ensures,
        append_assoc so_far.0 (shown line) (flat_map shown rest)
            ∙ ap (λ ls. so_far.0 ++ flat_map shown ls) (sym c.in-Some.ensures.steps) ∙ so_far.2,
      ),
    )

pub returns-in_err-put_dump_line : goal.returns-in_err-put_dump_line
returns-in_err-put_dump_line g c =
    let shown = dump_line c.find-slogan.result in
    let rest = c.next.new.self in
    let so_far = c.loop-line.invariant.2 in
    Puts-as (ap (λ ls. so_far.0 ++ flat_map shown ls) (sym c.in-Some.ensures.steps) ∙ so_far.2)
    (Puts-behind so_far.1 (Puts-stopped (flat_map shown rest) c.from_residual.ensures.0 c.in_err-put_dump_line.ensures))
