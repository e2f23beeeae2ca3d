use Rattle.std.proofs.Common.{length, refl}
use Rattle.heap_weights.proofs.Tallying.{shares-held}
use Rattle.heap_weights.proofs.weights.weigh.Goals as goal

pub returns : goal.returns
returns g c =
    shares-held (g.G.CellGraph.graph c.args.graph.now) (g.G.Weighed.words c.args.graph.now) (g.G.Weighed.binaries c.args.graph.now) (g.G.Weighed.own c.args.graph.now) (length c.args.roots.now) c.walk_all.new.labels c.args.roots.now
    c.in_ok-counted.counted c.shares.result refl c.walk_all.ensures.rested c.walk_all.ensures.held c.in_ok-counted.ensures c.shares.ensures
