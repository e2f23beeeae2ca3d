use Rattle.heap_graph.proofs.ReadFacts.{HasRead}
use Rattle.heap_graph.proofs.forms.push_joined.Given as goal

abbrev pub invariant-loop-elements : goal.invariant-loop-elements
invariant-loop-elements l = HasRead l.«from» l.fn.elements l.elements l.fn.kept l.kept

abbrev pub decreases-loop-elements : goal.decreases-loop-elements
decreases-loop-elements l = l.elements.count
