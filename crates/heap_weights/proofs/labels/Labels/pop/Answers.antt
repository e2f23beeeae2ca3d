use Rattle.std.proofs.Common.{◌≡◌, ◌<◌, [], length, map, true, MatchOption, subst, rules}
use Rattle.std.specs.Prelude.{IfSome, reverse}
use Rattle.cell_graphs.specs.Laws.Adding.{IsTied-pop}
use Rattle.heap_weights.specs.Holders.{labelled}
use Rattle.heap_weights.specs.Labels.{Labelling, is_stopped, marks_of}
use Rattle.heap_weights.proofs.Labelling.{popped-stopped, popped-within}
use Rattle.heap_weights.proofs.labels.Labels.pop.Goals as goal

pub invariant_of-self : goal.invariant_of-self
invariant_of-self c =
    let inside = c.self.inside in
    let after = c.pop.new.self in (
      IsTied-pop (marks_of inside.part (map labelled inside.labels.items)) inside.waiting.cap after.cap inside.waiting.items after.items c.pop.result c.self.invariant.0 c.pop.ensures.capacity
          c.pop.ensures.items,
      c.self.invariant.1,
    )

pub returns-clause-empty : goal.returns-clause-empty
returns-clause-empty c =
    let inside = c.self.inside in
    let after = c.pop.new.self in
    subst (λ (l : Labelling). MatchOption c.pop.result (reverse after.items ≡ []) (λ cell. cell < length l.holders)) c.self.view_is
    (popped-within inside.labels.items inside.part inside.waiting.cap inside.waiting.items after.items c.pop.result c.self.invariant.0 c.pop.ensures.items (search rules))

pub returns-clause-stopped : goal.returns-clause-stopped
returns-clause-stopped c =
    let inside = c.self.inside in
    let after = c.pop.new.self in
    subst (λ (l : Labelling). IfSome c.pop.result (λ cell. is_stopped l cell ≡ true)) c.self.view_is
    (popped-stopped inside.labels.items inside.part inside.waiting.cap inside.waiting.items after.items c.pop.result c.self.invariant.0 c.pop.ensures.items)
