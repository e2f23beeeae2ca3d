use Rattle.tuple_fronts.proofs.ReadFacts.{HasBegun}
use Rattle.tuple_fronts.proofs.first_elements.keep_elements.Given as goal

abbrev pub invariant-loop-place : goal.invariant-loop-place
invariant-loop-place l = HasBegun l.fn.elements l.elements l.fn.kept l.kept l._place
