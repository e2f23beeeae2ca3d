use Rattle.std.proofs.Common.{[], arith, List, if◌then◌else◌, ℕ}
use Rattle.std.specs.Prelude.{nat_le}
use Rattle.std.proofs.lemmas.Option.{slice_get-get_or}
use Rattle.dump_io.specs.Laws.Puts.{HasPut-more, Puts-all, Puts-as, Puts-broken}
use Rattle.wait_circles.specs.declared.on_circle.OnCircle.{OnCircle}
use Rattle.stream_commands.specs.Waits.{circle_line, Awaiting}
use Rattle.stream_commands.specs.Inner.Waits.{awaiting}
use Rattle.stream_commands.proofs.WaitFacts.{flat_map-filter}
use Rattle.stream_commands.proofs.wait_report.put_circles.Goals as goal

-- the line of a process on a circle, if that is one of the first
abbrev line_if : Awaiting → ℕ → OnCircle → List ℕ
line_if a most on = if nat_le on.circle most then circle_line a on else []

pub loop-on-preserved : goal.loop-on-preserved
loop-on-preserved g c =
    let all = c.args.on_circles.now in
    let i = c.loop-on.on-index in
    HasPut-more (line_if (awaiting c.args.told.now) c.args.most) all i _ (slice_get-get_or all i _ c.loop-on-test.true) c.loop-on.invariant c.in_ok-put_if_first.ensures

pub returns-in_err-put_if_first : goal.returns-in_err-put_if_first
returns-in_err-put_if_first g c =
    let a = awaiting c.args.told.now in
    let all = c.args.on_circles.now in
    let i = c.loop-on.on-index in
    Puts-as (flat_map-filter (circle_line a) (λ on. nat_le on.circle c.args.most) all)
    (Puts-broken (line_if a c.args.most) all i _ (slice_get-get_or all i _ c.loop-on-test.true) c.loop-on.invariant c.from_residual.ensures.0 c.in_err-put_if_first.ensures)

pub returns : goal.returns
returns g c =
    let a = awaiting c.args.told.now in
    let all = c.args.on_circles.now in
    Puts-as (flat_map-filter (circle_line a) (λ on. nat_le on.circle c.args.most) all)
    (Puts-all (line_if a c.args.most) all c.loop-on.on-index (omega arith) c.loop-on.invariant)
