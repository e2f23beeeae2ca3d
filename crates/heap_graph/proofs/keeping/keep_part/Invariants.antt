use Rattle.heap_graph.specs.Elements.{IsAlike}
use Rattle.heap_graph.specs.Held.{IsSmall}
use Rattle.heap_graph.specs.Keeping.{AreLeft, IsKeeping}
use Rattle.heap_graph.proofs.keeping.keep_part.Given as goal

-- the lines so far were kept, and the addresses of the elements of the others are left
abbrev pub invariant-loop-i : goal.invariant-loop-i
invariant-loop-i l = record {
  small : IsSmall l.kept;
  alike : IsAlike l.held.elements l.kept.elements;
  left : AreLeft l.held l.rest l.i;
  kept : IsKeeping l.held l.fn.kept l.«from» → IsKeeping l.held l.kept l.i;
}
