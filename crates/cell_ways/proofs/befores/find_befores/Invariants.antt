use Rattle.cell_ways.specs.Inner.Search.{AreNoted}
use Rattle.cell_ways.proofs.befores.find_befores.Given as goal

abbrev pub invariant-loop-cell : goal.invariant-loop-cell
invariant-loop-cell g l = AreNoted (g.G.CellGraph.graph l.graph) l.depths l.cell l.befores.items
