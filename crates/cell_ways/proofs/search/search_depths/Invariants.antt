use Rattle.cell_graphs.specs.Frontiers.{is_on}
use Rattle.cell_ways.specs.Inner.Search.{IsSearched}
use Rattle.cell_ways.proofs.search.search_depths.Given as goal

abbrev pub invariant-loop-depth : goal.invariant-loop-depth
invariant-loop-depth g l = IsSearched (g.G.CellGraph.graph l.graph) (λ n. is_on n l.roots) l.search l.from l.depth
