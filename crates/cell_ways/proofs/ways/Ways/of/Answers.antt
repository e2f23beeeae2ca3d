use Rattle.std.proofs.Common.{length, subst}
use Rattle.cell_graphs.specs.Frontiers.{is_on}
use Rattle.cell_ways.specs.Inner.Search.{AreNoted}
use Rattle.cell_ways.proofs.Noting.{ways-are}
use Rattle.cell_ways.proofs.ways.Ways.of.Goals as goal

pub returns : goal.returns
returns g c =
    let graph = g.G.CellGraph.graph c.args.graph.now in
    let befores = c.in_ok-befores.befores.items in
    ways-are graph (λ n. is_on n c.args.roots.now) c.in_ok-depths.depths.items befores c.in_ok-depths.ensures
    (subst (λ depths. AreNoted graph depths (length graph) befores) c.deref.ensures.value c.in_ok-befores.ensures)
