use Rattle.std.proofs.Common.{◌+◌, ◌∙◌, ◌≡◌, ap, arith, refl, List, None, ℕ}
use Rattle.dump_io.specs.Dumps.{DeviceState, ReadsAtMost}
use Rattle.dump_io.specs.Laws.Reads.{ReadsAtMost-then}
use Rattle.dump_io.specs.Limits.{Numbers}
use Rattle.dump_sections.specs.Index.{sections_in, Contents}
use Rattle.dump_sections.specs.Loading.{bodies_length, large_fault}
use Rattle.process_stacks.specs.Groups.{found_from}
use Rattle.process_stacks.specs.Rows.{stack_rows, stacks_length}
use Rattle.process_table.specs.Records.{record_sections}
use Rattle.section_rows.specs.Rows.{Row}
use Rattle.dump_questions.specs.Reading.{IsIndexed, Takes}
use Rattle.dump_questions.specs.Laws.Reading.{told-on, HasRead-on, IsHalted-bodies, IsHalted-on, IsOfBodies, ReadsFor-halted, Takes-on}
use Rattle.stream_commands.specs.Rows.{stacks_row}
use Rattle.stream_commands.proofs.stacks.StackGroupsReport.read.Goals as goal

-- the question loads its bodies
of : (most : ℕ) (limits : Numbers) (index : Contents) → IsOfBodies (stacks_row most) limits index
of most limits index = record { there = refl; few = λ bytes. omega arith }

-- the rows were loaded, and so many bytes were taken for them and for the stacks
takes : (most : ℕ) (limits : Numbers) (index : Contents) (old new : DeviceState) → large_fault limits.section (record_sections (sections_in index)) ≡ None
    → (rows : List Row) → ((bytes : List ℕ) → IsIndexed bytes limits index old.now → rows ≡ stack_rows bytes)
    → ReadsAtMost old new (bodies_length (record_sections (sections_in index)) + stacks_length index rows) → Takes (stacks_row most) limits index old new
takes most limits index old new small rows loaded reads =
    Takes-on (stacks_row most) limits index (of most limits index) old new small rows stack_rows loaded
    (λ i rs. bodies_length (record_sections (sections_in i)) + stacks_length i rs) _ (λ bytes. omega arith) reads (omega arith)

pub returns-in_err-procs-clause-reads : goal.returns-in_err-procs-clause-reads
returns-in_err-procs-clause-reads g c =
    let at = c.args.at.now in
    let most = c.args.self.now.count in
    ReadsFor-halted _ _ c.from_residual.result _ c.from_residual.ensures.1
    (IsHalted-bodies (stacks_row most) _ _ (of most at.limits.now at.index.now) g.D.Dumps.state _ _ _ c.in_err-procs.ensures.loads)

pub returns-in_err-stacks-clause-reads : goal.returns-in_err-stacks-clause-reads
returns-in_err-stacks-clause-reads g c =
    let read = c.in_ok-procs.ensures in
    let heard = c.in_err-stacks.ensures in
    ReadsFor-halted _ _ c.from_residual-in_err-stacks.result _ c.from_residual-in_err-stacks.ensures.1
    (IsHalted-on _ _ _ _ (takes c.args.self.now.count _ _ _ _ read.loads.allowed c.in_ok-procs.procs (λ bytes all. read.rows bytes all.opened)
    (ReadsAtMost-then read.loads.reads heard.reads)) read.loads.reads heard.fault)

pub returns-clause-reads : goal.returns-clause-reads
returns-clause-reads g c =
    let read = c.in_ok-procs.ensures in
    let heard = c.in_ok-stacks.ensures in
    let index = c.args.at.now.index.now in
    let limits = c.args.at.now.limits.now in
    let most = c.args.self.now.count in
    let rows = c.in_ok-procs.procs in
    let before = g.D.Dumps.state c.args.dumps.now in
    let loaded = λ (bytes : List ℕ) (all : IsIndexed bytes limits index before.now). read.rows bytes all.opened in
    HasRead-on (stacks_row most) limits index (of most limits index) _ _ read.loads.allowed rows stack_rows loaded _
    (takes most limits index _ _ read.loads.allowed rows loaded (ReadsAtMost-then read.loads.reads heard.reads)) (λ bytes. refl)
    (λ bytes all. ap (λ found. record { rows = rows; found = found }) (heard.found bytes (read.loads.reads.same_now ∙ all.opened))
    ∙ told-on (stacks_row most) limits index (of most limits index) before before read.loads.allowed rows stack_rows loaded
    (λ i rs. record { rows = rs; found = found_from bytes i rs }) bytes all)
