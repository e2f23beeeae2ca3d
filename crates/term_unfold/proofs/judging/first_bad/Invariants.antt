use Rattle.std.proofs.Common.{◌≡◌, ◌-◌, take}
use Rattle.term_forms.specs.Seen.{element}
use Rattle.term_unfold.specs.Inner.Coming.{to_come, or_else}
use Rattle.term_unfold.specs.Trees.{first_bad, verdict}
use Rattle.term_unfold.specs.Unfolding.{unfolding_of}
use Rattle.term_unfold.proofs.judging.first_bad.Given as goal

-- the verdict so far, or else that on the nodes to come, is the verdict
abbrev pub invariant-loop : goal.invariant-loop
invariant-loop l = record {
  cells : l.path.cells ≡ l.fn.path.cells;
  same : or_else l.found (first_bad (take (l.budget - l.counter) (to_come l.heap.cells l.path.entries))) ≡ verdict (unfolding_of l.heap.cells (element l.fn.root)) l.budget;
}
