use Rattle.std.proofs.Common.{◌≤◌, length, subst, arith}
use Rattle.cell_ways.specs.Inner.Search.{is_led_by, Finds}
use Rattle.cell_ways.proofs.Deepening.{led-more, queue-part}
use Rattle.cell_ways.proofs.Giving.{finds-then}
use Rattle.cell_ways.proofs.search.go_deeper.Goals as goal

pub loop-place-preserved : goal.loop-place-preserved
loop-place-preserved g c =
    let graph = g.G.CellGraph.graph c.args.graph.now in
    let queue = c.args.search.now.queue.items in
    let place = c.loop-place.place in
    let next = c.next_end-next.result in
    let finds = c.loop-place.invariant.1 in
    let later : place ≤ next = omega (arith, c.next_end-next.ensures.later) in
    let inside : next ≤ length queue = omega (arith, c.next_end-next.ensures.within, c.len-upto.ensures, c.args.search.now.queue.ok.0) in (
      omega (arith, c.loop-place.invariant.0, later),
      finds-then c.args.search.now c.loop-place.search c.look_at.new.search c.args.depth _ _ _ finds
          (subst (λ cells. Finds c.loop-place.search c.look_at.new.search c.args.depth (is_led_by graph cells)) (queue-part c.args.search.now c.loop-place.search c.args.depth place next _ later inside finds)
          c.in_ok-look_at.ensures)
          (λ n. led-more graph queue c.args.from place next n c.loop-place.invariant.0 later),
    )
