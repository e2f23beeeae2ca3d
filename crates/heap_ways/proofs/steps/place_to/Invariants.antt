use Rattle.heap_ways.proofs.StepFacts.{NoneBefore}
use Rattle.heap_ways.proofs.steps.place_to.Given as goal

abbrev pub invariant-loop-place : goal.invariant-loop-place
invariant-loop-place l = NoneBefore l.skeleton.leads l.from l.to l.place
