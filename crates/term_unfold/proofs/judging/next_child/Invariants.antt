use Rattle.std.proofs.Common.{◌≡◌, length}
use Rattle.term_unfold.specs.Inner.Coming.{to_come}
use Rattle.term_unfold.proofs.judging.next_child.Given as goal

-- what is left has still the same nodes to come
abbrev pub invariant-loop-entry : goal.invariant-loop-entry
invariant-loop-entry l = record {
  cells : l.path.cells ≡ l.initial.path.cells;
  same : to_come l.heap.cells l.path.entries ≡ to_come l.heap.cells l.initial.path.entries;
}

abbrev pub decreases-loop-entry : goal.decreases-loop-entry
decreases-loop-entry l = length l.path.entries
