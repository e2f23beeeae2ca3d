use Rattle.std.proofs.Common.{map, subst}
use Rattle.std.specs.Prelude.{All}
use Rattle.std.proofs.lemmas.List.Elements.{All-tail}
use Rattle.root_views.specs.Roots.{IsInside}
use Rattle.root_views.specs.Seen.{root}
use Rattle.root_views.specs.Placed.{placed, placed_roots}
use Rattle.root_views.proofs.EachFacts.{HeardFront, HeardFront-more}
use Rattle.root_views.proofs.each_root.hear_each.Goals as goal

pub loop-found-preserved : goal.loop-found-preserved
loop-found-preserved g c =
    let run = c.args.run.now in
    let found = root c.in-Some.found in
    let rest = c.next.new.self in
    let steps = c.in-Some.ensures.steps in
    let so_far = c.loop-found.invariant in
    let hears = g.S.EachRoot.hears in
    let all = placed_roots c.args.kind c.args.at run in (
      tt,
      tt,
      All-tail (IsInside run) found rest (subst (All (IsInside run)) steps so_far.2),
      c.in_ok-root.ensures.ready,
      HeardFront-more hears c.args.sink.now c.loop-found.sink c.root.new.self all (map (placed c.args.at) rest) (placed c.args.at found)
          (subst (λ l. HeardFront hears c.args.sink.now c.loop-found.sink all (map (placed c.args.at) l)) steps so_far.4)
          c.in_ok-root.ensures.hears,
    )
