use Rattle.std.proofs.Common.{◌∙◌, ap, take}
use Rattle.std.specs.Prelude.{filter, nat_le}
use Rattle.std.specs.List.{flat_map}
use Rattle.dump_io.specs.Laws.Puts.{Puts-as, Puts-stopped, Puts-then}
use Rattle.stream_commands.specs.Waits.{blocker_line, circle_line}
use Rattle.stream_commands.specs.Inner.Waits.{awaiting}
use Rattle.stream_commands.proofs.wait_report.put_waits.Goals as goal

pub returns-in_err-put_waiting : goal.returns-in_err-put_waiting
returns-in_err-put_waiting g c = Puts-stopped _ c.from_residual.ensures.0 c.in_err-put_waiting.ensures

pub returns-in_err-put_blockers : goal.returns-in_err-put_blockers
returns-in_err-put_blockers g c =
    let lines = blocker_line (awaiting c.args.told.now) in
    Puts-then c.in_ok-put_waiting.ensures (Puts-stopped _ c.from_residual-in_err-put_blockers.ensures.0
    (Puts-as (ap (flat_map lines) (c.first_blockers.ensures ∙ ap (take c.args.most) c.blockers.ensures)) c.in_err-put_blockers.ensures))

pub returns-in_err-put_circles : goal.returns-in_err-put_circles
returns-in_err-put_circles g c =
    let a = awaiting c.args.told.now in
    Puts-then c.in_ok-put_waiting.ensures
    (Puts-then (Puts-as (ap (flat_map (blocker_line a)) (c.first_blockers.ensures ∙ ap (take c.args.most) c.blockers.ensures)) c.in_ok-put_blockers.ensures)
    (Puts-stopped _ c.from_residual-in_err-put_circles.ensures.0
    (Puts-as (ap (λ l. flat_map (circle_line a) (filter (λ on. nat_le on.circle c.args.most) l)) c.on_circles.ensures) c.in_err-put_circles.ensures)))

pub returns : goal.returns
returns g c =
    let a = awaiting c.args.told.now in
    Puts-then c.in_ok-put_waiting.ensures
    (Puts-then (Puts-as (ap (flat_map (blocker_line a)) (c.first_blockers.ensures ∙ ap (take c.args.most) c.blockers.ensures)) c.in_ok-put_blockers.ensures)
    (Puts-then (Puts-as (ap (λ l. flat_map (circle_line a) (filter (λ on. nat_le on.circle c.args.most) l)) c.on_circles.ensures) c.in_ok-put_circles.ensures)
    c.put_total.ensures))
