use Rattle.dump_questions.specs.Meaning.{no_body}
use Rattle.heap_commands.specs.Terms.{no_external}
use Rattle.heap_commands.proofs.RootLoads.{reads-ext}
use Rattle.dump_questions.specs.Laws.Heaps.{IsHalted-heap}
use Rattle.dump_questions.specs.Laws.Reading.{ReadsAtMost-same, ReadsFor-halted}
use Rattle.heap_commands.proofs.ext.ExtReport.read.Goals as goal

pub returns-in_err-heap-clause-reads : goal.returns-in_err-heap-clause-reads
returns-in_err-heap-clause-reads g c =
    let t = c.args.self.now in
    let read = c.in_err-heap.ensures in
    ReadsFor-halted _ _ c.from_residual.result _ c.from_residual.ensures.1 (IsHalted-heap t.pid.now no_body (no_external t.addr) _ _ _ _ _ _ _ _ read.reads
    (λ some. ReadsAtMost-same g.D.Dumps.state _ _ _ read.reads (read.unread some)) read.heap)

pub returns-clause-reads : goal.returns-clause-reads
returns-clause-reads g c =
    let t = c.args.self.now in
    let read = c.in_ok-heap.ensures in
    reads-ext t.pid.now t.addr _ c.args.at.now.index.now _ _ _ _ read.reads read.heap c.read_external.ensures.judges c.read_external.ensures.bytes
