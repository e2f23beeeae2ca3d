use Rattle.std.proofs.Common.{◌*◌, ◌+◌, ◌∙◌, ◌∷◌, ◌≡◌, [], ap, arith, refl, rules, Bool, List, None, ℕ}
use Rattle.std.specs.Option.{option_or, option_to_list}
use Rattle.dump_io.specs.Dumps.{DeviceState, ReadsAtMost}
use Rattle.dump_io.specs.Limits.{Numbers}
use Rattle.dump_sections.specs.Bodies.{body_size}
use Rattle.dump_sections.specs.Index.{index_of, sections_in, Contents}
use Rattle.dump_sections.specs.Loading.{bodies_length}
use Rattle.dump_sections.specs.LoadingLaws.{bodies-one}
use Rattle.dump_sections.specs.Sections.{sections}
use Rattle.heap_cells.specs.Loading.{heap_bodies}
use Rattle.message_shapes.specs.Messages.{mail_shapes, ShapeMap}
use Rattle.root_views.specs.Sections.{root_section}
use Rattle.root_views.specs.declared.kinds.RootKind.TheVariants.{Mail}
use Rattle.skeleton_commands.specs.Shapes.{shapes_report}
use Rattle.dump_questions.specs.Meaning.{no_process}
use Rattle.dump_questions.specs.Heaps.{heap_question}
use Rattle.dump_questions.specs.Reading.{Takes}
use Rattle.dump_questions.specs.Laws.Reading.{HasRead-listed, IsHalted-reading, IsHalted-subject, ReadsFor-halted}
use Rattle.skeleton_commands.specs.Rows.{shapes_row}
use Rattle.skeleton_commands.proofs.CutLoads.{seen-indexed, Takes-cuts}
use Rattle.skeleton_commands.proofs.shapes.ShapesReport.read.Goals as goal

-- so many bytes are taken for the mailbox and, twice, for the heap
takes : (pid : List ℕ) (most : ℕ) (pids : Bool) (limits : Numbers) (index : Contents) (old new : DeviceState) → no_process pid (sections_in index) ≡ None
    → ReadsAtMost old new (body_size (root_section Mail pid (sections_in index)) + 2 * bodies_length (heap_bodies pid (sections_in index)))
    → Takes (shapes_row pid most pids) limits index old new
takes pid most pids limits index old new there reads =
    Takes-cuts (Mail ∷ []) (record (heap_question pid) {
      also = λ ss. option_to_list (root_section Mail pid ss);
      What = ShapeMap;
      what = λ bytes. mail_shapes pids bytes (index_of bytes) pid;
      show = shapes_report most;
      more = λ limits bytes. bodies_length (heap_bodies pid (sections bytes));
    }) limits index old new there _ reads
    (λ bytes all. omega (arith, bodies-one (root_section Mail pid (sections_in index)), ap (λ i. bodies_length (heap_bodies pid (sections_in i))) all.is))

pub returns-in_err-find_process-clause-reads : goal.returns-in_err-find_process-clause-reads
returns-in_err-find_process-clause-reads g c =
    let t = c.args.self.now in
    ReadsFor-halted _ _ c.from_residual.result _ c.from_residual.ensures.1
    (IsHalted-subject (shapes_row t.pid.now t.count t.pids) _ c.args.at.now.index.now _ _ ℕ _ (search rules) c.in_err-find_process.ensures.judges)

pub returns-in_err-shapes-clause-reads : goal.returns-in_err-shapes-clause-reads
returns-in_err-shapes-clause-reads g c =
    let t = c.args.self.now in
    let loaded = c.in_err-shapes.ensures in
    ReadsFor-halted _ _ c.from_residual-in_err-shapes.result _ c.from_residual-in_err-shapes.ensures.1
    (IsHalted-reading (shapes_row t.pid.now t.count t.pids) _ c.args.at.now.index.now _ _ _
    (takes t.pid.now t.count t.pids _ c.args.at.now.index.now _ _ c.in_ok-find_process.ensures.judges loaded.reads) loaded.fault)

pub returns-clause-reads : goal.returns-clause-reads
returns-clause-reads g c =
    let t = c.args.self.now in
    let there = c.in_ok-find_process.ensures.judges in
    let loaded = c.in_ok-shapes.ensures in
    HasRead-listed (shapes_row t.pid.now t.count t.pids) _ c.args.at.now.index.now _ _ _
    (takes t.pid.now t.count t.pids _ c.args.at.now.index.now _ _ there loaded.reads) (ap (λ o. option_or o None) there)
    (λ bytes all. (refl, seen-indexed all.is (loaded.shapes bytes all.opened ∙ ap (λ i. mail_shapes t.pids bytes i t.pid.now) all.is)))
