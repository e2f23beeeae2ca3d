use Rattle.std.proofs.Common.{◌+◌, ◌∙◌, arith, subst}
use Rattle.dump_io.specs.Laws.Reads.{ReadsAtMost-then}
use Rattle.dump_sections.specs.Bodies.{IsBodyIn}
use Rattle.dump_sections.specs.Index.{sections_in}
use Rattle.binary_holders.specs.Usage.{fronts_length, heaps_length}
use Rattle.dump_questions.specs.Meaning.{memory_body, memory_section}
use Rattle.stream_commands.specs.Rows.{used_in, used_report}
use Rattle.stream_commands.proofs.HolderLoads.{HasRead-heard, IsOfBodies-holders, Takes-heard}
use Rattle.dump_questions.specs.Laws.Reading.{IsHalted-bodies, IsHalted-on, ReadsFor-halted}
use Rattle.stream_commands.proofs.binaries.BinariesReport.read.Goals as goal

pub returns-in_err-node-clause-reads : goal.returns-in_err-node-clause-reads
returns-in_err-node-clause-reads g c =
    ReadsFor-halted _ _ c.from_residual.result _ c.from_residual.ensures.1 (IsHalted-bodies _ _ _
    (IsOfBodies-holders memory_body (λ i pids. fronts_length i + heaps_length i pids) used_in used_report c.args.at.now.limits.now c.args.at.now.index.now) g.D.Dumps.state _ _ _ c.in_err-node.ensures.loads)

pub returns-in_err-found-clause-reads : goal.returns-in_err-found-clause-reads
returns-in_err-found-clause-reads g c =
    let read = c.in_ok-node.ensures in
    let heard = c.in_err-found.ensures in
    ReadsFor-halted _ _ c.from_residual-in_err-found.result _ c.from_residual-in_err-found.ensures.1 (IsHalted-on _ _ _ _
    (Takes-heard memory_body (λ i pids. fronts_length i + heaps_length i pids) used_in used_report _ _ _ _ read.loads.allowed c.in_ok-node.node.procs (λ bytes all. read.node.table bytes all.opened)
    _ (ReadsAtMost-then read.loads.reads heard.reads) (omega arith))
    read.loads.reads heard.fault)

pub returns-clause-reads : goal.returns-clause-reads
returns-clause-reads g c =
    let read = c.in_ok-node.ensures in
    let heard = c.in_ok-found.ensures in
    let index = c.args.at.now.index.now in
    let node = c.in_ok-node.node in
    let now = (g.D.Dumps.state c.args.dumps.now).now in
    HasRead-heard memory_body (λ i pids. fronts_length i + heaps_length i pids) used_in used_report _ index _ _ read.loads.allowed node.procs (λ bytes all. read.node.table bytes all.opened) _
    (Takes-heard memory_body (λ i pids. fronts_length i + heaps_length i pids) used_in used_report _ _ _ _ read.loads.allowed _ (λ bytes all. read.node.table bytes all.opened) _ (ReadsAtMost-then read.loads.reads heard.reads) (omega arith))
    (λ bytes all.
    let found = heard.found bytes (read.loads.reads.same_now ∙ all.opened) in
    let memory = subst (λ n. IsBodyIn n (memory_section (sections_in index)) node.memory.bytes.items) all.opened read.node.memory in
    λ i. record { usage = found i; memory = memory i })
