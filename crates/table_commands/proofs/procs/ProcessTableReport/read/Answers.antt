use Rattle.std.proofs.Common.{refl}
use Rattle.dump_questions.specs.Laws.Reading.{alone, ReadsFor-whole}
use Rattle.table_commands.specs.Rows.{procs_row}
use Rattle.table_commands.proofs.procs.ProcessTableReport.read.Goals as goal

pub returns-clause-reads : goal.returns-clause-reads
returns-clause-reads g c =
    rw c.or_stop.ensures (ReadsFor-whole procs_row _ _ (alone _ _) g.D.Dumps.state _ _ (λ _. refl) (λ loaded. loaded) _ c.load.ensures.loads c.load.ensures.table)
