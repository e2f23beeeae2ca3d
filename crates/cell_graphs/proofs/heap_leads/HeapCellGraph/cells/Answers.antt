use Rattle.cell_graphs.specs.Laws.HeapGraphs.{heap-within}
use Rattle.cell_graphs.proofs.heap_leads.HeapCellGraph.cells.Goals as goal

pub returns-clause-within : goal.returns-clause-within
returns-clause-within c = heap-within c.args.self.now.cells
