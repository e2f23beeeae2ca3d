use Rattle.std.proofs.Common.{◌∙◌, arith, refl, subst}
use Rattle.dump_io.specs.Laws.Reads.{ReadsAtMost-then}
use Rattle.dump_sections.specs.Bodies.{IsBodyIn}
use Rattle.dump_sections.specs.Index.{sections_in}
use Rattle.root_views.specs.Sections.{root_section}
use Rattle.dump_questions.specs.Heaps.{never}
use Rattle.heap_commands.specs.Rows.{root_body}
use Rattle.heap_commands.proofs.RootLoads.{roots-told, AreUnread-refused, StopsFor-last}
use Rattle.dump_questions.specs.Laws.Heaps.{small-before, walk-told, HasRead-heap, IsHalted-heap, StopsFor-previews, Takes-walk}
use Rattle.dump_questions.specs.Laws.Reading.{IsHalted-later, ReadsAtMost-same, ReadsFor-halted}
use Rattle.heap_commands.proofs.roots.RootsReport.read.Goals as goal

pub returns-in_err-heap-clause-reads : goal.returns-in_err-heap-clause-reads
returns-in_err-heap-clause-reads g c =
    let t = c.args.self.now in
    let here = c.place_of-place.ensures.section in
    let read = rw here at c.in_err-heap.ensures in
    ReadsFor-halted _ _ c.from_residual.result _ c.from_residual.ensures.1 (IsHalted-heap t.pid.now (root_body t.kind t.pid.now) never _ _ _ _ _ _ _ _ read.reads
    (λ some. ReadsAtMost-same g.D.Dumps.state _ _ _ read.reads (read.unread some)) read.heap)

pub returns-in_err-previews-clause-reads : goal.returns-in_err-previews-clause-reads
returns-in_err-previews-clause-reads g c =
    let t = c.args.self.now in
    let here = c.place_of-place.ensures.section in
    let read = rw here at c.in_ok-heap.ensures in
    let shown = c.in_err-previews.ensures in
    ReadsFor-halted _ _ c.from_residual-in_err-previews.result _ c.from_residual-in_err-previews.ensures.1 (IsHalted-later _ _ _ _ _ _
    (Takes-walk t.pid.now (root_body t.kind t.pid.now) never _ _ _ _ _ _ _ read.heap _ (ReadsAtMost-then read.reads shown.reads) (omega arith))
    read.reads (StopsFor-previews (g.D.Dumps.state c.load_heap.new.dumps) (g.D.Dumps.state c.load.new.dumps) _ shown.fault))

pub returns-in_err-body-clause-reads : goal.returns-in_err-body-clause-reads
returns-in_err-body-clause-reads g c =
    let t = c.args.self.now in
    let here = c.place_of-place.ensures.section in
    let read = rw here at c.in_ok-heap.ensures in
    let shown = c.in_ok-previews.ensures in
    let last = (rw here at c.in_err-body.ensures.loads) in
    let reads = ReadsAtMost-then read.reads shown.reads in
    ReadsFor-halted _ _ c.from_residual-in_err-body.result _ c.from_residual-in_err-body.ensures.1 (IsHalted-later _ _ _ _ _ _
    (Takes-walk t.pid.now (root_body t.kind t.pid.now) never _ _ _ _ _ _ _ read.heap _ (ReadsAtMost-then reads last.reads) (omega arith))
    reads (StopsFor-last (g.D.Dumps.state c.load.new.dumps) (g.D.Dumps.state c.read_found.new.dumps) _ _ (small-before _ _ _ _ _ _ read.heap)
    (AreUnread-refused (g.D.Dumps.state c.load.new.dumps) (g.D.Dumps.state c.read_found.new.dumps) (root_body t.kind t.pid.now (sections_in c.args.at.now.index.now)) c.args.at.now.limits.now.section _ last.fault)))

pub returns-clause-reads : goal.returns-clause-reads
returns-clause-reads g c =
    let t = c.args.self.now in
    let index = c.args.at.now.index.now in
    let here = c.place_of-place.ensures.section in
    let read = rw here at c.in_ok-heap.ensures in
    let shown = c.in_ok-previews.ensures in
    let last = rw here at c.in_ok-body.ensures in
    let body = c.in_ok-body.body in
    HasRead-heap t.pid.now (root_body t.kind t.pid.now) never _ _ _ _ _ _ _ _ read.heap _
    (Takes-walk t.pid.now (root_body t.kind t.pid.now) never _ _ _ _ _ _ _ read.heap _ (ReadsAtMost-then (ReadsAtMost-then read.reads shown.reads) last.loads.reads) (omega arith)) refl
    (λ bytes all.
    let then = read.reads.same_now ∙ all.opened in
    let walked = walk-told t.pid.now bytes _ _ _ all.is (read.heap.is bytes all) (shown.previews bytes then) in
    roots-told t.kind t.pid.now bytes index _ body all.is walked last.body.base
    (subst (λ n. IsBodyIn n (root_section t.kind t.pid.now (sections_in index)) body.bytes.items) (shown.reads.same_now ∙ then) last.body.held))
