use Rattle.std.proofs.Common.{◌∙◌, arith, refl, subst}
use Rattle.dump_io.specs.Laws.Reads.{ReadsAtMost-then}
use Rattle.dump_sections.specs.Index.{sections_in}
use Rattle.heap_commands.specs.Inner.Loads.{HoldsRoots}
use Rattle.root_views.specs.Sections.{root_bodies}
use Rattle.dump_questions.specs.Heaps.{never}
use Rattle.heap_commands.proofs.RootLoads.{roots-at, terms-told, StopsFor-last}
use Rattle.dump_questions.specs.Laws.Heaps.{small-before, HasRead-heap, IsHalted-heap, Takes-heap}
use Rattle.dump_questions.specs.Laws.Reading.{IsHalted-later, ReadsAtMost-same, ReadsFor-halted}
use Rattle.heap_commands.proofs.reach.ReachReport.read.Goals as goal

pub returns-in_err-heap-clause-reads : goal.returns-in_err-heap-clause-reads
returns-in_err-heap-clause-reads g c =
    let pid = c.args.self.now.pid.now in
    let index = c.args.at.now.index.now in
    let at = roots-at pid index _ c.root_places-places.ensures.sections in
    let read = c.in_err-heap.ensures (root_bodies pid (sections_in index)) (rw at at c.large_roots.ensures) in
    ReadsFor-halted _ _ c.from_residual.result _ c.from_residual.ensures.1 (IsHalted-heap pid (root_bodies pid) never _ _ _ _ index _ _ _ read.reads
    (λ some. ReadsAtMost-same g.D.Dumps.state _ _ _ read.reads (read.unread some)) read.heap)

pub returns-in_err-roots-clause-reads : goal.returns-in_err-roots-clause-reads
returns-in_err-roots-clause-reads g c =
    let pid = c.args.self.now.pid.now in
    let index = c.args.at.now.index.now in
    let at = roots-at pid index _ c.root_places-places.ensures.sections in
    let read = c.in_ok-heap.ensures (root_bodies pid (sections_in index)) (rw at at c.large_roots.ensures) in
    let last = rw at at c.in_err-roots.ensures in
    ReadsFor-halted _ _ c.from_residual-in_err-roots.result _ c.from_residual-in_err-roots.ensures.1 (IsHalted-later _ _ _ _ _ _
    (Takes-heap pid (root_bodies pid) never _ _ _ _ _ _ _ _ read.heap _ 0 (ReadsAtMost-then read.reads last.reads) (omega arith) (λ bytes all. omega arith))
    read.reads (StopsFor-last (g.D.Dumps.state c.load_behind.new.dumps) (g.D.Dumps.state c.read_roots.new.dumps) _ _ (small-before _ _ _ _ _ _ read.heap) last.fault))

pub returns-clause-reads : goal.returns-clause-reads
returns-clause-reads g c =
    let pid = c.args.self.now.pid.now in
    let index = c.args.at.now.index.now in
    let places = c.root_places-places.ensures.sections in
    let at = roots-at pid index _ places in
    let read = c.in_ok-heap.ensures (root_bodies pid (sections_in index)) (rw at at c.large_roots.ensures) in
    let last = c.in_ok-roots.ensures in
    let roots = c.in_ok-roots.roots in
    HasRead-heap pid (root_bodies pid) never _ _ _ _ _ _ _ _ read.heap _
    (Takes-heap pid (root_bodies pid) never _ _ _ _ _ _ _ _ read.heap _ 0 (ReadsAtMost-then read.reads (rw at at last.reads)) (omega arith) (λ bytes all. omega arith)) refl
    (λ bytes all.
    let bodies = subst (λ n. HoldsRoots index n c.root_places-places.result roots) (read.reads.same_now ∙ all.opened) last.bodies in
    rw (read.heap.is bytes all, terms-told pid bytes index _ roots all.is places bodies) refl)
