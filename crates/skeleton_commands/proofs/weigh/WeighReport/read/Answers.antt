use Rattle.std.proofs.Common.{◌+◌, ◌∙◌, ◌≡◌, ◌≤◌, ap, arith, refl, rules, List, None, ℕ}
use Rattle.std.specs.Option.{option_or}
use Rattle.dump_io.specs.Dumps.{DeviceState, ReadsAtMost}
use Rattle.dump_io.specs.Limits.{Numbers}
use Rattle.dump_sections.specs.Index.{index_of, sections_in, Contents}
use Rattle.dump_sections.specs.Loading.{bodies_length}
use Rattle.heap_cells.specs.Loading.{heap_bodies}
use Rattle.part_weights.specs.Weights.{root_weighing, Weighing}
use Rattle.root_views.specs.Sections.{root_bodies}
use Rattle.skeleton_commands.specs.Weights.{weights_report}
use Rattle.dump_questions.specs.Meaning.{no_process}
use Rattle.dump_questions.specs.Heaps.{heap_question}
use Rattle.dump_questions.specs.Reading.{Takes}
use Rattle.dump_questions.specs.Laws.Reading.{HasRead-listed, IsHalted-reading, IsHalted-subject, ReadsFor-halted}
use Rattle.term_text.specs.Cuts.{all_roots}
use Rattle.skeleton_commands.specs.Rows.{weigh_row}
use Rattle.skeleton_commands.proofs.CutLoads.{seen-indexed, Takes-cuts}
use Rattle.skeleton_commands.proofs.weigh.WeighReport.read.Goals as goal

-- so many bytes are taken for the roots and the heap
takes : (pid : List ℕ) (most : ℕ) (limits : Numbers) (index : Contents) (old new : DeviceState) → no_process pid (sections_in index) ≡ None
    → (count : ℕ) → ReadsAtMost old new count → count ≤ bodies_length (root_bodies pid (sections_in index)) + bodies_length (heap_bodies pid (sections_in index))
    → Takes (weigh_row pid most) limits index old new
takes pid most limits index old new there count reads few =
    Takes-cuts all_roots (record (heap_question pid) {
      also = root_bodies pid;
      What = Weighing;
      what = λ bytes. root_weighing bytes (index_of bytes) pid;
      show = weights_report most;
    }) limits index old new there count reads (λ bytes all. omega (arith, few))

pub returns-in_err-find_process-clause-reads : goal.returns-in_err-find_process-clause-reads
returns-in_err-find_process-clause-reads g c =
    let t = c.args.self.now in
    ReadsFor-halted _ _ c.from_residual.result _ c.from_residual.ensures.1
    (IsHalted-subject (weigh_row t.pid.now t.count) _ c.args.at.now.index.now _ _ ℕ _ (search rules) c.in_err-find_process.ensures.judges)

pub returns-in_err-weights-clause-reads : goal.returns-in_err-weights-clause-reads
returns-in_err-weights-clause-reads g c =
    let t = c.args.self.now in
    let weighed = c.in_err-weights.ensures in
    ReadsFor-halted _ _ c.from_residual-in_err-weights.result _ c.from_residual-in_err-weights.ensures.1
    (IsHalted-reading (weigh_row t.pid.now t.count) _ c.args.at.now.index.now _ _ _
    (takes t.pid.now t.count _ c.args.at.now.index.now _ _ c.in_ok-find_process.ensures.judges _ weighed.reads (omega arith)) weighed.fault)

pub returns-clause-reads : goal.returns-clause-reads
returns-clause-reads g c =
    let t = c.args.self.now in
    let there = c.in_ok-find_process.ensures.judges in
    let weighed = c.in_ok-weights.ensures in
    HasRead-listed (weigh_row t.pid.now t.count) _ c.args.at.now.index.now _ _ _
    (takes t.pid.now t.count _ c.args.at.now.index.now _ _ there _ weighed.reads (omega arith)) (ap (λ o. option_or o None) there)
    (λ bytes all. (refl, seen-indexed all.is (weighed.weights bytes all.opened ∙ ap (λ i. root_weighing bytes i t.pid.now) all.is)))
