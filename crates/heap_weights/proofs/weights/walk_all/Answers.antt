use Rattle.std.proofs.Common.{arith}
use Rattle.heap_weights.proofs.Holding.{AreHeldBy-more}
use Rattle.heap_weights.proofs.weights.walk_all.Goals as goal

pub loop-part-preserved : goal.loop-part-preserved
loop-part-preserved g c = (
  c.walk.ensures.rested,
  AreHeldBy-more (g.G.CellGraph.graph c.args.graph.now) c.args.roots.now c.loop-part.part _ c.loop-part.labels c.walk.new.labels (omega arith) c.loop-part.invariant.1 c.walk.ensures.holders,
)
