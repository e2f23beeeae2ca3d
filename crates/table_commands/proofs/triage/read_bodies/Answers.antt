use Rattle.std.proofs.Common.{◌∙◌, arith, rules, subst, Some}
use Rattle.std.specs.Option.{option_to_list}
use Rattle.dump_io.specs.Dumps.{ReadsAtMost}
use Rattle.dump_io.specs.Laws.Reads.{ReadsAtMost-none, ReadsAtMost-then, ReadsAtMost-within}
use Rattle.dump_sections.specs.Bodies.{section_in, IsBodyIn}
use Rattle.dump_sections.specs.Index.{sections_in}
use Rattle.process_table.specs.Records.{record_sections}
use Rattle.table_sections.specs.Tables.{listed}
use Rattle.dump_questions.specs.Meaning.{memory_section}
use Rattle.dump_questions.specs.Laws.Reading.{over-still}
use Rattle.table_commands.specs.Inner.Loads.{sections_found}
use Rattle.table_commands.proofs.TriageLoads.{length-found, small-found, stops-at}
use Rattle.table_commands.proofs.triage.read_bodies.Goals as goal

pub read_found-requires-2-clause-over : goal.read_found-requires-2-clause-over
read_found-requires-2-clause-over g c = over-still c.args.at.now.index.now c.in_ok-first.ensures.loads.reads c.requires.over

pub read_standing-requires-clause-over : goal.read_standing-requires-clause-over
read_standing-requires-clause-over g c =
    let index = c.args.at.now.index.now in
    over-still index c.in_ok-memory.ensures.loads.reads (over-still index c.in_ok-first.ensures.loads.reads c.requires.over)

pub read-requires-clause-over : goal.read-requires-clause-over
read-requires-clause-over g c =
    let index = c.args.at.now.index.now in
    over-still index c.in_ok-procs.ensures.loads.reads
    (over-still index c.in_ok-memory.ensures.loads.reads (over-still index c.in_ok-first.ensures.loads.reads c.requires.over))

pub read-requires-2-clause-over : goal.read-requires-2-clause-over
read-requires-2-clause-over g c =
    let index = c.args.at.now.index.now in
    over-still index c.in_ok-tables.ensures.loads.reads (over-still index c.in_ok-procs.ensures.loads.reads
    (over-still index c.in_ok-memory.ensures.loads.reads (over-still index c.in_ok-first.ensures.loads.reads c.requires.over)))

pub returns-in_err-first-clause-reads : goal.returns-in_err-first-clause-reads
returns-in_err-first-clause-reads g c =
    let limit = c.args.at.now.limits.now.section in
    let index = c.args.at.now.index.now in
    let places = c.args.places in
    let state = g.D.Dumps.state c.args.dumps.now in
    let before : ReadsAtMost state state 0 = ReadsAtMost-none 0 (search rules) in
    stops-at g.D.Dumps.state limit (sections_found index places) (option_to_list (section_in index (Some 0))) c.from_residual.result _ c.from_residual.ensures.1
    (small-found limit index places c.requires.small).first before c.in_err-first.ensures.loads (omega (arith, length-found index places))

pub returns-in_err-memory-clause-reads : goal.returns-in_err-memory-clause-reads
returns-in_err-memory-clause-reads g c =
    let limit = c.args.at.now.limits.now.section in
    let index = c.args.at.now.index.now in
    let places = c.args.places in
    let before = c.in_ok-first.ensures.loads.reads in
    stops-at g.D.Dumps.state limit (sections_found index places) (option_to_list (section_in index places.memory)) c.from_residual-in_err-memory.result _ c.from_residual-in_err-memory.ensures.1
    (small-found limit index places c.requires.small).memory before c.in_err-memory.ensures.loads (omega (arith, length-found index places))

pub returns-in_err-procs-clause-reads : goal.returns-in_err-procs-clause-reads
returns-in_err-procs-clause-reads g c =
    let limit = c.args.at.now.limits.now.section in
    let index = c.args.at.now.index.now in
    let places = c.args.places in
    let before = ReadsAtMost-then c.in_ok-first.ensures.loads.reads c.in_ok-memory.ensures.loads.reads in
    stops-at g.D.Dumps.state limit (sections_found index places) (record_sections (sections_in index)) c.from_residual-in_err-procs.result _ c.from_residual-in_err-procs.ensures.1
    (small-found limit index places c.requires.small).procs before c.in_err-procs.ensures.loads (omega (arith, length-found index places))

pub returns-in_err-tables-clause-reads : goal.returns-in_err-tables-clause-reads
returns-in_err-tables-clause-reads g c =
    let limit = c.args.at.now.limits.now.section in
    let index = c.args.at.now.index.now in
    let places = c.args.places in
    let before = ReadsAtMost-then (ReadsAtMost-then c.in_ok-first.ensures.loads.reads c.in_ok-memory.ensures.loads.reads) c.in_ok-procs.ensures.loads.reads in
    stops-at g.D.Dumps.state limit (sections_found index places) (listed places.tables.kind (sections_in index)) c.from_residual-in_err-tables.result _ c.from_residual-in_err-tables.ensures.1
    (small-found limit index places c.requires.small).tables before c.in_err-tables.ensures.loads (omega (arith, length-found index places))

pub returns-in_err-ports-clause-reads : goal.returns-in_err-ports-clause-reads
returns-in_err-ports-clause-reads g c =
    let limit = c.args.at.now.limits.now.section in
    let index = c.args.at.now.index.now in
    let places = c.args.places in
    let before = ReadsAtMost-then (ReadsAtMost-then (ReadsAtMost-then c.in_ok-first.ensures.loads.reads c.in_ok-memory.ensures.loads.reads) c.in_ok-procs.ensures.loads.reads) c.in_ok-tables.ensures.loads.reads in
    stops-at g.D.Dumps.state limit (sections_found index places) (listed places.ports.kind (sections_in index)) c.from_residual-in_err-ports.result _ c.from_residual-in_err-ports.ensures.1
    (small-found limit index places c.requires.small).ports before c.in_err-ports.ensures.loads (omega (arith, length-found index places))

pub returns-clause-reads : goal.returns-clause-reads
returns-clause-reads g c =
    let read = ReadsAtMost-then (ReadsAtMost-then (ReadsAtMost-then (ReadsAtMost-then c.in_ok-first.ensures.loads.reads c.in_ok-memory.ensures.loads.reads) c.in_ok-procs.ensures.loads.reads) c.in_ok-tables.ensures.loads.reads) c.in_ok-ports.ensures.loads.reads in
    record { reads = ReadsAtMost-within (omega (arith, length-found c.args.at.now.index.now c.args.places)) read; fault = tt }

pub returns-clause-bodies : goal.returns-clause-bodies
returns-clause-bodies g c =
    let index = c.args.at.now.index.now in
    let found = c.requires.places in
    let first = c.in_ok-first.ensures in
    let memory = rw found.memory at c.in_ok-memory.ensures in
    let procs = c.in_ok-procs.ensures in
    let tables = rw found.kind at c.in_ok-tables.ensures in
    let ports = rw found.ports_kind at c.in_ok-ports.ensures in
    λ bytes told.
    let behind_first = first.loads.reads.same_now ∙ told in
    let behind_memory = memory.loads.reads.same_now ∙ behind_first in
    let behind_procs = procs.loads.reads.same_now ∙ behind_memory in
    record {
      first = subst (λ n. IsBodyIn n (section_in index (Some 0)) c.in_ok-first.first.bytes.items) told first.body.held;
      memory = subst (λ n. IsBodyIn n (memory_section (sections_in index)) c.in_ok-memory.memory.bytes.items) behind_first memory.body.held;
      procs = procs.table bytes behind_memory;
      stands = procs.stands bytes behind_memory;
      tables = tables.table bytes behind_procs;
      ports = ports.table bytes (tables.loads.reads.same_now ∙ behind_procs);
    }

pub returns-clause-fits : goal.returns-clause-fits
returns-clause-fits g c =
    let found = c.requires.places in
    record {
      sections = c.in_ok-procs.ensures.over.named;
      stands = c.in_ok-procs.ensures.count;
      tables = (rw found.kind at c.in_ok-tables.ensures).over;
      ports = (rw found.ports_kind at c.in_ok-ports.ensures).over;
    }
