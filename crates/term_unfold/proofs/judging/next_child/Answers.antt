use Rattle.std.proofs.Common.{◌∷◌, sym, ◌∙◌, ap}
use Rattle.term_unfold.specs.Inner.Entries.{Entered}
use Rattle.term_unfold.specs.Inner.Children.{child_shown}
use Rattle.term_unfold.proofs.Visited.{to_come-step, to_come-pop}
use Rattle.term_unfold.proofs.judging.next_child.Goals as goal

pub returns-in-Some-child_at-clause-next : goal.returns-in-Some-child_at-clause-next
returns-in-Some-child_at-clause-next c =
    let heap = c.args.heap.now.cells in
    sym c.loop-entry.invariant.same
    ∙ to_come-step heap c.in-Some.entry.came c.loop-entry.path.entries c.step.new.self.entries c.in-Some.entry _ (child_shown heap c.in-Some-child_at.child) c.in-Some.ensures.top (sym c.in-Some-child_at.ensures.child)
    (ap (λ (o : Entered). o.entries) c.step.ensures)

pub loop-entry-preserved : goal.loop-entry-preserved
loop-entry-preserved c =
    let left = ap (λ (o : Entered). o.entries) c.pop.ensures in
    record {
      cells = ap (λ (o : Entered). o.cells) c.pop.ensures ∙ c.loop-entry.invariant.cells;
      same =
          to_come-pop c.args.heap.now.cells c.loop-entry.path.entries c.pop.new.self.entries c.in-Some.entry
          (c.in-Some.ensures.top ∙ ap (λ es. c.in-Some.entry ∷ es) (sym left)) (sym c.in_default-child_at.ensures.child)
          ∙ c.loop-entry.invariant.same;
    }
