use Rattle.std.proofs.Common.{◌∙◌, arith}
use Rattle.dump_io.specs.Laws.Reads.{ReadsAtMost-then}
use Rattle.dump_questions.specs.Meaning.{no_body}
use Rattle.dump_questions.specs.Heaps.{no_address}
use Rattle.dump_questions.specs.Laws.Heaps.{walk-told, HasRead-heap, IsHalted-heap, IsHalted-refused, StopsFor-previews, Takes-walk}
use Rattle.dump_questions.specs.Laws.Reading.{IsHalted-later, ReadsAtMost-same, ReadsFor-halted}
use Rattle.heap_commands.proofs.term.TermReport.read.Goals as goal

pub returns-in_err-heap-clause-reads : goal.returns-in_err-heap-clause-reads
returns-in_err-heap-clause-reads g c =
    let t = c.args.self.now in
    let read = c.in_err-heap.ensures in
    ReadsFor-halted _ _ c.from_residual.result _ c.from_residual.ensures.1 (IsHalted-heap t.pid.now no_body (no_address t.addr) _ _ _ _ _ _ _ _ read.reads
    (λ some. ReadsAtMost-same g.D.Dumps.state _ _ _ read.reads (read.unread some)) read.heap)

pub returns-in_err-find_cell-clause-reads : goal.returns-in_err-find_cell-clause-reads
returns-in_err-find_cell-clause-reads g c =
    let t = c.args.self.now in
    let read = c.in_ok-heap.ensures in
    ReadsFor-halted _ _ c.from_residual-in_err-find_cell.result _ c.from_residual-in_err-find_cell.ensures.1 (IsHalted-refused t.pid.now no_body (no_address t.addr) _ _ _ _ _ _ _ _ read.heap (Unit {0}) _
    (Takes-walk t.pid.now no_body (no_address t.addr) _ _ _ _ _ _ _ read.heap _ read.reads (omega arith)) c.in_err-find_cell.ensures)

pub returns-in_err-previews-clause-reads : goal.returns-in_err-previews-clause-reads
returns-in_err-previews-clause-reads g c =
    let t = c.args.self.now in
    let read = c.in_ok-heap.ensures in
    let shown = c.in_err-previews.ensures in
    ReadsFor-halted _ _ c.from_residual-in_err-previews.result _ c.from_residual-in_err-previews.ensures.1 (IsHalted-later _ _ _ _ _ _
    (Takes-walk t.pid.now no_body (no_address t.addr) _ _ _ _ _ _ _ read.heap _ (ReadsAtMost-then read.reads shown.reads) (omega arith))
    read.reads (StopsFor-previews (g.D.Dumps.state c.load_heap.new.dumps) (g.D.Dumps.state c.load.new.dumps) _ shown.fault))

pub returns-clause-reads : goal.returns-clause-reads
returns-clause-reads g c =
    let t = c.args.self.now in
    let read = c.in_ok-heap.ensures in
    let shown = c.in_ok-previews.ensures in
    HasRead-heap t.pid.now no_body (no_address t.addr) _ _ _ _ _ _ _ _ read.heap _ (Takes-walk t.pid.now no_body (no_address t.addr) _ _ _ _ _ _ _ read.heap _ (ReadsAtMost-then read.reads shown.reads) (omega arith)) c.in_ok-find_cell.ensures
    (λ bytes all. walk-told t.pid.now bytes _ _ _ all.is (read.heap.is bytes all) (shown.previews bytes (read.reads.same_now ∙ all.opened)))
