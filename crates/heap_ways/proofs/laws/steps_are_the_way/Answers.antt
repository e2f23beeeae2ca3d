use Rattle.std.proofs.Common.{None}
use Rattle.heap_ways.proofs.WrittenFacts.{steps-written}
use Rattle.heap_ways.proofs.laws.steps_are_the_way.Goals as goal

pub returns : goal.returns
returns c = λ kinds graph way. steps-written kinds graph None way
