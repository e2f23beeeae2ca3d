use Rattle.std.proofs.Common.{take}
use Rattle.cell_graphs.specs.Frontiers.{is_on}
use Rattle.cell_ways.specs.Inner.Search.{Finds}
use Rattle.cell_ways.proofs.search.add_all.Given as goal

-- the first cells are found
abbrev pub invariant-loop-cell : goal.invariant-loop-cell
invariant-loop-cell l = Finds l.initial.search l.search l.depth (λ n. is_on n (take l.cell-index l.cells))
