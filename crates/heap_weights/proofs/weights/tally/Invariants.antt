use Rattle.heap_weights.specs.Holders.{holder_at}
use Rattle.heap_weights.specs.Inner.Tallies.{HasCounted}
use Rattle.heap_weights.proofs.weights.tally.Given as goal

abbrev pub invariant-loop-n : goal.invariant-loop-n
invariant-loop-n g l = HasCounted (g.G.Weighed.words l.graph) (g.G.Weighed.binaries l.graph) (holder_at l.labels.holders) l.parts l.n l.counted
