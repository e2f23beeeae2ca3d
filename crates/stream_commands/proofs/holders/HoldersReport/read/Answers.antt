use Rattle.std.proofs.Common.{◌∙◌, arith}
use Rattle.dump_io.specs.Laws.Reads.{ReadsAtMost-then}
use Rattle.binary_holders.specs.Usage.{heaps_length, holders_in}
use Rattle.glance_text.specs.Holders.{holders_report}
use Rattle.dump_questions.specs.Meaning.{no_body}
use Rattle.stream_commands.proofs.HolderLoads.{HasRead-heard, IsOfBodies-holders, Takes-heard}
use Rattle.dump_questions.specs.Laws.Reading.{IsHalted-bodies, IsHalted-on, ReadsFor-halted}
use Rattle.stream_commands.proofs.holders.HoldersReport.read.Goals as goal

pub returns-in_err-procs-clause-reads : goal.returns-in_err-procs-clause-reads
returns-in_err-procs-clause-reads g c =
    let addr = c.args.self.now.addr in
    ReadsFor-halted _ _ c.from_residual.result _ c.from_residual.ensures.1 (IsHalted-bodies _ _ _
    (IsOfBodies-holders no_body heaps_length (λ bytes i processes. holders_in bytes i processes addr) holders_report c.args.at.now.limits.now c.args.at.now.index.now) g.D.Dumps.state _ _ _ c.in_err-procs.ensures.loads)

pub returns-in_err-held-clause-reads : goal.returns-in_err-held-clause-reads
returns-in_err-held-clause-reads g c =
    let addr = c.args.self.now.addr in
    let read = c.in_ok-procs.ensures in
    let heard = c.in_err-held.ensures in
    ReadsFor-halted _ _ c.from_residual-in_err-held.result _ c.from_residual-in_err-held.ensures.1 (IsHalted-on _ _ _ _
    (Takes-heard no_body heaps_length (λ bytes i processes. holders_in bytes i processes addr) holders_report _ _ _ _ read.loads.allowed c.in_ok-procs.procs (λ bytes all. read.table bytes all.opened)
    _ (ReadsAtMost-then read.loads.reads heard.reads) (omega arith))
    read.loads.reads heard.fault)

pub returns-clause-reads : goal.returns-clause-reads
returns-clause-reads g c =
    let addr = c.args.self.now.addr in
    let read = c.in_ok-procs.ensures in
    let heard = c.in_ok-held.ensures in
    let index = c.args.at.now.index.now in
    HasRead-heard no_body heaps_length (λ bytes i processes. holders_in bytes i processes addr) holders_report _ index _ _ read.loads.allowed c.in_ok-procs.procs (λ bytes all. read.table bytes all.opened) _
    (Takes-heard no_body heaps_length (λ bytes i processes. holders_in bytes i processes addr) holders_report _ _ _ _ read.loads.allowed _ (λ bytes all. read.table bytes all.opened) _ (ReadsAtMost-then read.loads.reads heard.reads) (omega arith))
    (λ bytes all. heard.found bytes (read.loads.reads.same_now ∙ all.opened))
