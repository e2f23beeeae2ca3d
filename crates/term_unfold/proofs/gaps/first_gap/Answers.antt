use Rattle.std.proofs.Common.{◌+◌, ◌-◌, ◌∙◌, ap, take, arith}
use Rattle.std.specs.Option.{option_or}
use Rattle.term_unfold.specs.Inner.Children.{child_shown}
use Rattle.term_unfold.specs.Inner.Coming.{to_come}
use Rattle.term_unfold.specs.Parts.{gap_at, first_gap}
use Rattle.term_unfold.proofs.Visited.{gap-next}
use Rattle.term_unfold.proofs.gaps.first_gap.Goals as goal

pub loop-preserved : goal.loop-preserved
loop-preserved g c =
    let known = g.A.Addresses.known c.args.whole.now in
    let heap = c.args.heap.now.cells in
    record {
      cells = c.visit-opened.ensures.cells ∙ c.in-Some-next_child.ensures.cells ∙ c.loop.invariant.cells;
      same =
          ap (λ o. option_or o (first_gap (gap_at known heap) (take (c.args.budget - (c.loop.counter + 1)) (to_come heap c.visit-opened.new.path.entries)))) c.gap_on-found-in-loop.ensures
          ∙ gap-next known c.args.budget c.loop.counter heap c.loop.path.entries c.next_child.new.path.entries c.visit-opened.new.path.entries
          (child_shown heap c.in-Some-next_child.child) c.loop.found c.visit-opened.result c.in_default.is (omega arith) c.in-Some-next_child.ensures.next c.visit-opened.ensures.visits
          ∙ c.loop.invariant.same;
    }
