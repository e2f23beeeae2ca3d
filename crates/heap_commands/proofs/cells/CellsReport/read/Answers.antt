use Rattle.heap_commands.proofs.RootLoads.{reads-cells}
use Rattle.dump_questions.specs.Laws.Reading.{ReadsAtMost-same}
use Rattle.heap_commands.proofs.cells.CellsReport.read.Goals as goal

pub returns-clause-reads : goal.returns-clause-reads
returns-clause-reads g c =
    let read = c.load_heap.ensures in
    reads-cells c.args.self.now.pid.now _ _ _ _ _ read.reads (λ some. ReadsAtMost-same g.D.Dumps.state _ _ _ read.reads (read.unread some)) read.heap
