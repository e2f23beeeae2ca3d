use Rattle.std.proofs.Common.{◌∙◌, subst}
use Rattle.dump_sections.specs.Bodies.{IsBodyIn}
use Rattle.dump_sections.specs.Index.{sections_in}
use Rattle.dump_sections.specs.LoadingLaws.{small-both}
use Rattle.process_table.specs.Records.{record_sections}
use Rattle.dump_questions.specs.Meaning.{memory_body}
use Rattle.dump_questions.specs.Laws.Bodies.{ReadsBodies-front, ReadsBodies-loads, ReadsBodies-next, ReadsBodies-stopped}
use Rattle.dump_questions.specs.Laws.Reading.{over-still}
use Rattle.stream_commands.proofs.binaries.read_node.Goals as goal

pub read-requires-clause-over : goal.read-requires-clause-over
read-requires-clause-over g c = over-still c.args.at.now.index.now c.in_ok-memory.ensures.loads.reads c.requires.over

pub returns-in_err-memory-clause-reads : goal.returns-in_err-memory-clause-reads
returns-in_err-memory-clause-reads g c =
    let limit = c.args.at.now.limits.now.section in
    let ss = sections_in c.args.at.now.index.now in
    let small = (small-both limit (memory_body ss) (record_sections ss) c.requires.small).0 in
    let memory = ReadsBodies-loads g.D.Dumps.state (memory_body ss) limit _ _ _ small (rw c.requires.memory at c.in_err-memory.ensures.loads) in
    ReadsBodies-stopped c.from_residual.result _ c.from_residual.ensures.1 (ReadsBodies-front (memory_body ss) (record_sections ss) {U = Unit {0}} _ memory)

pub returns-in_err-procs-clause-reads : goal.returns-in_err-procs-clause-reads
returns-in_err-procs-clause-reads g c =
    let limit = c.args.at.now.limits.now.section in
    let ss = sections_in c.args.at.now.index.now in
    let small = (small-both limit (memory_body ss) (record_sections ss) c.requires.small).0 in
    let memory = ReadsBodies-loads g.D.Dumps.state (memory_body ss) limit _ _ _ small (rw c.requires.memory at c.in_ok-memory.ensures.loads) in
    ReadsBodies-stopped c.from_residual-in_err-procs.result _ c.from_residual-in_err-procs.ensures.1
    (ReadsBodies-next g.D.Dumps.state (memory_body ss) (record_sections ss) limit c.requires.small memory c.in_err-procs.ensures.loads)

pub returns-clause-reads : goal.returns-clause-reads
returns-clause-reads g c =
    let limit = c.args.at.now.limits.now.section in
    let ss = sections_in c.args.at.now.index.now in
    let small = (small-both limit (memory_body ss) (record_sections ss) c.requires.small).0 in
    let memory = ReadsBodies-loads g.D.Dumps.state (memory_body ss) limit _ _ _ small (rw c.requires.memory at c.in_ok-memory.ensures.loads) in
    let both = ReadsBodies-next g.D.Dumps.state (memory_body ss) (record_sections ss) limit c.requires.small memory c.in_ok-procs.ensures.loads in
    record { reads = both.reads; fault = tt }

pub returns-clause-node : goal.returns-clause-node
returns-clause-node g c =
    let memory = c.in_ok-memory.ensures in
    let procs = c.in_ok-procs.ensures in
    record {
      memory = subst (λ s. IsBodyIn (g.D.Dumps.state c.args.dumps.now).now s c.in_ok-memory.memory.bytes.items) c.requires.memory memory.body.held;
      table = λ bytes same. procs.table bytes (memory.loads.reads.same_now ∙ same);
      over = procs.over;
    }
