use Rattle.std.proofs.Common.{◌≡◌, ℕ, ◌↔◌, ◌∙◌, ap, subst, Contains}
use Rattle.std.proofs.lemmas.List.Sorted.{Contains-permutation, IsNonDecreasingBy-from_sort, IsPermutation-sym}
use Rattle.cell_graphs.specs.Reached.{is_in}
use Rattle.heap_weights.specs.Labels.{frontier}
use Rattle.heap_reach.specs.Reached.{Reaching}
use Rattle.heap_reach.specs.Unreached.{ascending, unreached_of, IsMissed}
use Rattle.heap_reach.proofs.Missed.{missed-sorted}
use Rattle.heap_reach.proofs.Once.{rising-sorted}
use Rattle.heap_reach.proofs.Ordered.{ascending-is}
use Rattle.heap_reach.proofs.reach.Reach.unreached.Goals as goal

pub returns-clause-ascending : goal.returns-clause-ascending
returns-clause-ascending c =
    let inside = c.self.inside in
    let sorted = c.sort_unstable.new.self.items in
    rising-sorted inside.heap.now.cells (is_in (frontier inside.labels).marks) inside.heap.now.own c.in_ok-found.found.items sorted c.in_ok-found.ensures c.sort_unstable.ensures.permutation
    (IsNonDecreasingBy-from_sort (λ n. n) sorted c.sort_unstable.ensures.sorted) c.self.invariant.0.distinct

pub returns-clause-each : goal.returns-clause-each
returns-clause-each c =
    let inside = c.self.inside in
    let sorted = c.sort_unstable.new.self.items in
    let P : Reaching → Type 0 = λ r. (a : ℕ) → Contains sorted a ↔ IsMissed r.heap.cells (is_in r.marks) r.heap.own a in
    subst P c.self.view_is
    (missed-sorted inside.heap.now.cells (is_in (frontier inside.labels).marks) inside.heap.now.own c.in_ok-found.found.items sorted c.in_ok-found.ensures c.sort_unstable.ensures.permutation)

pub returns-clause-value : goal.returns-clause-value
returns-clause-value c =
    let inside = c.self.inside in
    let found = c.in_ok-found.found.items in
    let sorted = c.sort_unstable.new.self.items in
    let moved = c.sort_unstable.ensures.permutation in
    let up = rising-sorted inside.heap.now.cells (is_in (frontier inside.labels).marks) inside.heap.now.own found sorted c.in_ok-found.ensures moved
    (IsNonDecreasingBy-from_sort (λ n. n) sorted c.sort_unstable.ensures.sorted) c.self.invariant.0.distinct in
    let P : Reaching → Type 0 = λ r. sorted ≡ unreached_of r.heap (is_in r.marks) in
    subst P c.self.view_is
    (ascending-is sorted found up (λ a has. Contains-permutation sorted found a (IsPermutation-sym found sorted moved) has)
    (λ a has. Contains-permutation found sorted a moved has)
    ∙ ap ascending c.in_ok-found.ensures)
