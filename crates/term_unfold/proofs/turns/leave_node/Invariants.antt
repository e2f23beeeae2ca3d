use Rattle.std.proofs.Common.{◌≡◌, length}
use Rattle.term_unfold.specs.Inner.Entries.{outside}
use Rattle.term_unfold.proofs.turns.leave_node.Given as goal

-- what is outside of the innermost node is the same
abbrev pub invariant-loop-entry : goal.invariant-loop-entry
invariant-loop-entry l = record {
  cells : l.path.cells ≡ l.initial.path.cells;
  reserved : l.path.reserved ≡ l.initial.path.reserved;
  out : outside l.path.entries ≡ outside l.initial.path.entries;
}

abbrev pub decreases-loop-entry : goal.decreases-loop-entry
decreases-loop-entry l = length l.path.entries
