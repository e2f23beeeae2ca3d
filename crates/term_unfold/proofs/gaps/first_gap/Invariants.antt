use Rattle.std.proofs.Common.{◌≡◌, ◌-◌, take}
use Rattle.std.specs.Option.{option_or}
use Rattle.term_forms.specs.Seen.{element}
use Rattle.term_unfold.specs.Inner.Coming.{to_come}
use Rattle.term_unfold.specs.Parts.{gap_at, gap_of, first_gap}
use Rattle.term_unfold.proofs.gaps.first_gap.Given as goal

-- the gap so far, or else that of the nodes to come, is the gap
abbrev pub invariant-loop : goal.invariant-loop
invariant-loop g l = record {
  cells : l.path.cells ≡ l.fn.path.cells;
  same : option_or l.found (first_gap (gap_at (g.A.Addresses.known l.whole) l.heap.cells) (take (l.budget - l.counter) (to_come l.heap.cells l.path.entries)))
      ≡ gap_of (g.A.Addresses.known l.whole) l.heap.cells (element l.fn.root) l.budget;
}
