use Rattle.std.proofs.Common.{◌+◌, ◌-◌, ◌∙◌, ap, take, arith}
use Rattle.term_unfold.specs.Inner.Children.{child_shown}
use Rattle.term_unfold.specs.Inner.Coming.{to_come, or_else}
use Rattle.term_unfold.specs.Trees.{first_bad}
use Rattle.term_unfold.proofs.Visited.{visited-next}
use Rattle.term_unfold.proofs.judging.first_bad.Goals as goal

pub loop-preserved : goal.loop-preserved
loop-preserved c = record {
  cells = c.visit-opened.ensures.cells ∙ c.in-Some.ensures.cells ∙ c.loop.invariant.cells;
  same =
      ap (λ v. or_else v (first_bad (take (c.args.budget - (c.loop.counter + 1)) (to_come c.args.heap.now.cells c.visit-opened.new.path.entries)))) c.judge_opened-found-in-loop.ensures
      ∙ visited-next c.args.budget c.loop.counter c.args.heap.now.cells c.loop.path.entries c.next_child.new.path.entries c.visit-opened.new.path.entries
      (child_shown c.args.heap.now.cells c.in-Some.child) c.loop.found c.visit-opened.result c.in_default.is (omega arith) c.in-Some.ensures.next c.visit-opened.ensures.visits
      ∙ c.loop.invariant.same;
}
