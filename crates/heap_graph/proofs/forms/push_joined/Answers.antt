use Rattle.term_forms.specs.SeenPlaces.{placed}
use Rattle.heap_graph.proofs.ReadFacts.{read-more}
use Rattle.heap_graph.proofs.forms.push_joined.Goals as goal

pub loop-elements-preserved : goal.loop-elements-preserved
loop-elements-preserved c =
    read-more c.args.«from» c.args.elements c.loop-elements.elements c.next_elem.new.self (placed c.in-Some.found) c.args.kept.now c.loop-elements.kept c.push_elem.new.elements
    c.loop-elements.invariant c.in-Some.ensures.first c.in_ok-push_elem.ensures
