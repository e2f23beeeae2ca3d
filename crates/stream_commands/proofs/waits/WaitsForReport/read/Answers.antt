use Rattle.std.proofs.Common.{◌∙◌, arith, List, ℕ}
use Rattle.dump_io.specs.Laws.Reads.{ReadsAtMost-then}
use Rattle.dump_questions.specs.Laws.Reading.{IsHalted-bodies, IsHalted-on, ReadsFor-halted}
use Rattle.dump_questions.specs.Reading.{IsIndexed}
use Rattle.stream_commands.proofs.WaitLoads.{HasRead-waits, IsOfBodies-waits, Takes-waits}
use Rattle.stream_commands.proofs.waits.WaitsForReport.read.Goals as goal

pub returns-in_err-procs-clause-reads : goal.returns-in_err-procs-clause-reads
returns-in_err-procs-clause-reads g c =
    let at = c.args.at.now in
    let most = c.args.self.now.count in
    ReadsFor-halted _ _ c.from_residual.result _ c.from_residual.ensures.1
    (IsHalted-bodies _ _ _ (IsOfBodies-waits most at.limits.now at.index.now) g.D.Dumps.state _ _ _ c.in_err-procs.ensures.loads)

pub returns-in_err-waits-clause-reads : goal.returns-in_err-waits-clause-reads
returns-in_err-waits-clause-reads g c =
    let most = c.args.self.now.count in
    let read = c.in_ok-procs.ensures in
    let heard = c.in_err-waits.ensures in
    ReadsFor-halted _ _ c.from_residual-in_err-waits.result _ c.from_residual-in_err-waits.ensures.1
    (IsHalted-on _ _ _ _
    (Takes-waits most _ _ _ _ read.loads.allowed _ _ (λ bytes all. read.table bytes all.opened) (λ bytes all. read.stands bytes all.opened) _
    (ReadsAtMost-then read.loads.reads heard.reads) (omega arith))
    read.loads.reads heard.fault)

pub returns-clause-reads : goal.returns-clause-reads
returns-clause-reads g c =
    let most = c.args.self.now.count in
    let read = c.in_ok-procs.ensures in
    let heard = c.in_ok-waits.ensures in
    let index = c.args.at.now.index.now in
    let limits = c.args.at.now.limits.now in
    let table = λ (bytes : List ℕ) (all : IsIndexed bytes limits index (g.D.Dumps.state c.args.dumps.now).now). read.table bytes all.opened in
    let stands = λ (bytes : List ℕ) (all : IsIndexed bytes limits index (g.D.Dumps.state c.args.dumps.now).now). read.stands bytes all.opened in
    HasRead-waits most limits index _ _ read.loads.allowed _ _ table stands _
    (Takes-waits most limits index _ _ read.loads.allowed _ _ table stands _ (ReadsAtMost-then read.loads.reads heard.reads) (omega arith))
    (λ bytes all. heard.waits bytes (read.loads.reads.same_now ∙ all.opened))
