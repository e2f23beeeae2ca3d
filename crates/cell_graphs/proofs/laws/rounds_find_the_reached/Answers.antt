use Rattle.cell_graphs.specs.Laws.Closing.{found-reached, reached-found}
use Rattle.cell_graphs.specs.Laws.HeapGraphs.{heap-within}
use Rattle.cell_graphs.proofs.laws.rounds_find_the_reached.Goals as goal

pub returns-clause-found : goal.returns-clause-found
returns-clause-found c = λ graph within begun n. (found-reached graph begun n, reached-found graph begun within n)

pub returns-clause-heaps : goal.returns-clause-heaps
returns-clause-heaps c = heap-within
