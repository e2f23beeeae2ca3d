use Rattle.std.proofs.Common.{refl}
use Rattle.dump_questions.specs.Laws.Reading.{alone, ReadsFor-whole}
use Rattle.table_commands.specs.Rows.{fields_row}
use Rattle.table_commands.proofs.fields.FieldsReport.read.Goals as goal

pub returns-clause-reads : goal.returns-clause-reads
returns-clause-reads g c =
    let asked = c.args.self.now in
    rw c.or_stop.ensures (ReadsFor-whole (fields_row asked.tag.now asked.key.now) _ _ (alone _ _) g.D.Dumps.state _ _ (λ _. refl) (λ loaded. loaded) _ c.load.ensures.loads c.load.ensures.fields)
