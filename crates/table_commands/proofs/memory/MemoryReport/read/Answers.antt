use Rattle.std.proofs.Common.{refl, None}
use Rattle.table_commands.specs.Rows.{fields_of}
use Rattle.dump_questions.specs.Meaning.{memory_section}
use Rattle.dump_questions.specs.Laws.Reading.{ReadsFor-part}
use Rattle.table_commands.proofs.memory.MemoryReport.read.Goals as goal

pub returns-clause-reads : goal.returns-clause-reads
returns-clause-reads g c =
    rw c.or_stop.ensures (ReadsFor-part (λ ss. None) memory_section fields_of _ c.args.at.now.index.now g.D.Dumps.state _ _ _ _ refl c.first_tag-place.ensures.section c.read_found.ensures.loads c.read_found.ensures.body)
