use Rattle.std.proofs.Common.{refl}
use Rattle.std.proofs.lemmas.Result.{IfOk-weaker}
use Rattle.table_commands.specs.Inner.Loads.{seen_triage}
use Rattle.dump_questions.specs.Laws.Reading.{alone, ReadsFor-bodies}
use Rattle.table_commands.proofs.TriageLoads.{triage-told}
use Rattle.table_commands.specs.Rows.{triage_row}
use Rattle.table_commands.proofs.triage.TriageReport.read.Goals as goal

pub returns-clause-reads : goal.returns-clause-reads
returns-clause-reads g c =
    let index = c.args.at.now.index.now in
    let loaded = c.load_bodies.ensures in
    rw c.or_stop.ensures (ReadsFor-bodies (triage_row c.args.self.now.count) _ index (alone _ index) g.D.Dumps.state _ _ (λ _. refl) (seen_triage index) _ loaded.loads
    (IfOk-weaker c.load_bodies.result _ _ (λ tables of. λ bytes all. triage-told index bytes tables all.is (of bytes all.opened)) loaded.bodies))
