use Rattle.std.proofs.Common.{◌+◌, ◌*◌, ◌∙◌, ◌≡◌, ap, arith, refl, rules, List, None, ℕ}
use Rattle.std.specs.Option.{option_or}
use Rattle.dump_io.specs.Dumps.{DeviceState, ReadsAtMost}
use Rattle.dump_io.specs.Limits.{Numbers}
use Rattle.dump_sections.specs.Index.{index_of, sections_in, Contents}
use Rattle.dump_sections.specs.Loading.{bodies_length}
use Rattle.dump_sections.specs.Sections.{sections}
use Rattle.heap_cells.specs.Loading.{heap_bodies}
use Rattle.heap_levels.specs.Levels.{HeavyLevels, heavy_levels, process_of}
use Rattle.root_views.specs.Sections.{root_bodies}
use Rattle.dump_questions.specs.Meaning.{no_process}
use Rattle.dump_questions.specs.Heaps.{heap_question}
use Rattle.dump_questions.specs.Reading.{Takes}
use Rattle.dump_questions.specs.Laws.Reading.{HasRead-listed, IsHalted-reading, IsHalted-subject, ReadsFor-halted}
use Rattle.term_text.specs.Cuts.{all_roots}
use Rattle.skeleton_commands.specs.Heavy.{heavy_report}
use Rattle.skeleton_commands.specs.Rows.{heavy_row}
use Rattle.skeleton_commands.proofs.CutLoads.{seen-indexed, Takes-cuts}
use Rattle.skeleton_commands.proofs.heavy.HeavyReport.read.Goals as goal

-- so many bytes are taken for the roots, and for the heap and the keys in it
takes : (pid : List ℕ) (most : ℕ) (limits : Numbers) (index : Contents) (old new : DeviceState) → no_process pid (sections_in index) ≡ None
    → ReadsAtMost old new (3 * bodies_length (heap_bodies pid (sections_in index)) + bodies_length (root_bodies pid (sections_in index)))
    → Takes (heavy_row pid most) limits index old new
takes pid most limits index old new there reads =
    Takes-cuts all_roots (record (heap_question pid) {
      also = root_bodies pid;
      What = HeavyLevels;
      what = λ bytes. heavy_levels most (process_of bytes (index_of bytes) pid);
      show = heavy_report;
      more = λ limits bytes. 2 * bodies_length (heap_bodies pid (sections bytes));
    }) limits index old new there _ reads
    (λ bytes all. omega (arith, ap (λ i. bodies_length (heap_bodies pid (sections_in i))) all.is))

pub returns-in_err-find_process-clause-reads : goal.returns-in_err-find_process-clause-reads
returns-in_err-find_process-clause-reads g c =
    let t = c.args.self.now in
    ReadsFor-halted _ _ c.from_residual.result _ c.from_residual.ensures.1
    (IsHalted-subject (heavy_row t.pid.now t.count) _ c.args.at.now.index.now _ _ ℕ _ (search rules) c.in_err-find_process.ensures.judges)

pub returns-in_err-levels-clause-reads : goal.returns-in_err-levels-clause-reads
returns-in_err-levels-clause-reads g c =
    let t = c.args.self.now in
    let loaded = c.in_err-levels.ensures in
    ReadsFor-halted _ _ c.from_residual-in_err-levels.result _ c.from_residual-in_err-levels.ensures.1
    (IsHalted-reading (heavy_row t.pid.now t.count) _ c.args.at.now.index.now _ _ _
    (takes t.pid.now t.count _ c.args.at.now.index.now _ _ c.in_ok-find_process.ensures.judges loaded.reads) loaded.fault)

pub returns-clause-reads : goal.returns-clause-reads
returns-clause-reads g c =
    let t = c.args.self.now in
    let there = c.in_ok-find_process.ensures.judges in
    let loaded = c.in_ok-levels.ensures in
    HasRead-listed (heavy_row t.pid.now t.count) _ c.args.at.now.index.now _ _ _
    (takes t.pid.now t.count _ c.args.at.now.index.now _ _ there loaded.reads) (ap (λ o. option_or o None) there)
    (λ bytes all. (refl, seen-indexed all.is (loaded.levels bytes all.opened ∙ ap (λ i. heavy_levels t.count (process_of bytes i t.pid.now)) all.is)))
