use Rattle.std.proofs.Common.{◌++◌, ◌∙◌, ◌∷◌, [], ap, ap₂, arith, List, None, ℕ}
use Rattle.dump_sections.specs.Bodies.{body_in, body_size, body_start}
use Rattle.dump_sections.specs.Index.{index_of, sections_in}
use Rattle.root_views.specs.Shown.{shown_roots}
use Rattle.root_views.specs.Kinds.{roots_in}
use Rattle.root_views.specs.Sections.{root_section}
use Rattle.term_text.specs.Cuts.{cut_report}
use Rattle.term_text.specs.Roots.{answer_over, some_roots_report}
use Rattle.term_unfold.specs.Walks.{Walk}
use Rattle.dump_questions.specs.Meaning.{part_in}
use Rattle.heap_commands.specs.Inner.Loads.{walk_in}
use Rattle.heap_commands.specs.declared.peek.PeekRoots.{PeekRoots}
use Rattle.heap_commands.proofs.PartLoads.{peeked-told, HasRead-behind, IsHalted-behind, IsHalted-first}
use Rattle.dump_sections.specs.LoadingLaws.{bodies-one}
use Rattle.dump_questions.specs.Laws.Reading.{ReadsFor-halted, StopsFor-reading}
use Rattle.heap_commands.specs.Rows.{root_body}
use Rattle.heap_commands.proofs.peek.load_roots.Goals as goal

-- the report on some roots, over what a walker goes
abbrev text : PeekRoots → List ℕ → Walk → List ℕ
text t bytes walk =
    let part = part_in (root_section t.kind t.pid.now) bytes in
    some_roots_report (answer_over walk t.nodes t.marked) part.base t.first t.count (roots_in t.kind part.bytes) ++ cut_report (index_of bytes) t.pid.now (t.kind ∷ [])

pub returns-in_err-shown-clause-reads : goal.returns-in_err-shown-clause-reads
returns-in_err-shown-clause-reads g c =
    let t = c.args.roots.now in
    let index = c.args.at.now.index.now in
    let before = g.D.Dumps.state c.args.dumps.now in
    let rooted = g.D.Dumps.state c.read_roots.new.dumps in
    let here = ap body_size c.place_of-place.ensures.section in
    let one = bodies-one (root_section t.kind t.pid.now (sections_in index)) in
    let roots = c.in_err-shown.ensures in
    ReadsFor-halted _ _ c.from_residual.result _ c.from_residual.ensures.1
    (IsHalted-first t.pid.now (root_body t.kind t.pid.now) None (text t) _ index before rooted c.requires.there
    _ roots.reads (omega (arith, here, one)) _ (StopsFor-reading before rooted (λ why. ⊥) _ roots.fault))

pub returns-in_err-part-clause-reads : goal.returns-in_err-part-clause-reads
returns-in_err-part-clause-reads g c =
    let t = c.args.roots.now in
    let index = c.args.at.now.index.now in
    let here = ap body_size c.place_of-place.ensures.section in
    let one = bodies-one (root_section t.kind t.pid.now (sections_in index)) in
    ReadsFor-halted _ _ c.from_residual-in_err-part.result _ c.from_residual-in_err-part.ensures.1
    (IsHalted-behind t.pid.now (root_body t.kind t.pid.now) None (text t) _ index _ _ c.requires.there
    _ c.in_ok-shown.ensures.reads (omega (arith, here, one)) _ _ _ _ c.in_err-part.ensures.gives)

pub returns-clause-reads : goal.returns-clause-reads
returns-clause-reads g c =
    let t = c.args.roots.now in
    let index = c.args.at.now.index.now in
    let section = c.place_of-place.ensures.section in
    let here = ap body_size section in
    let one = bodies-one (root_section t.kind t.pid.now (sections_in index)) in
    let read = c.in_ok-shown.ensures in
    let part = c.in_ok-part.part in
    HasRead-behind t.pid.now (root_body t.kind t.pid.now) None (text t) _ index _ _ c.requires.there
    _ read.reads (omega (arith, here, one)) _ _ _ part _ c.in_ok-part.ensures.gives
    (λ bytes all answers. ap₂ (λ text index. text ++ cut_report index t.pid.now (t.kind ∷ []))
    (peeked-told t.kind t.pid.now bytes t.first t.count t.nodes t.marked index (walk_in part) c.in_ok-shown.base c.in_ok-shown.shown all.is
    (read.roots.base ∙ ap body_start section)
    (read.roots.shown bytes all.opened ∙ ap (λ s. shown_roots t.kind t.first t.count (body_in bytes s)) section)
    (λ e inside. answers e inside t.marked)) all.is)
