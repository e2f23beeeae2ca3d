use Rattle.std.proofs.Common.{ap, ap₂, codes}
use Rattle.dump_io.specs.Laws.Puts.{Puts-as, Puts-stopped, Puts-then}
use Rattle.skeleton_commands.specs.Heavy.{level_line, subject_text}
use Rattle.skeleton_commands.specs.Weights.{weight_line}
use Rattle.skeleton_commands.proofs.heavy_report.put_level.Goals as goal

pub returns-in_err-put_head : goal.returns-in_err-put_head
returns-in_err-put_head g c =
    Puts-stopped _ c.from_residual.ensures.0
    (Puts-as (ap₂ (λ s r. level_line c.args.number (subject_text s) r) c.subject.ensures c.reached.ensures) c.in_err-put_head.ensures)

pub returns-in_err-put_rows : goal.returns-in_err-put_rows
returns-in_err-put_rows g c =
    let head = Puts-as (ap₂ (λ s r. level_line c.args.number (subject_text s) r) c.subject.ensures c.reached.ensures) c.in_ok-put_head.ensures in
    Puts-then head (Puts-stopped _ c.from_residual-in_err-put_rows.ensures.0 c.in_err-put_rows.ensures)

pub returns : goal.returns
returns g c =
    let head = Puts-as (ap₂ (λ s r. level_line c.args.number (subject_text s) r) c.subject.ensures c.reached.ensures) c.in_ok-put_head.ensures in
    Puts-then head (Puts-then c.in_ok-put_rows.ensures (Puts-as (ap (weight_line (codes "shared")) c.shared.ensures) c.put_shared.ensures))
