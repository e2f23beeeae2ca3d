use Rattle.table_commands.proofs.Audits.{ReadsFor-audit}
use Rattle.table_commands.proofs.audit.AuditReport.read.Goals as goal

pub returns-clause-reads : goal.returns-clause-reads
returns-clause-reads g c =
    let audit = c.args.self.now in
    let read = c.load.ensures in
    rw c.or_stop.ensures (ReadsFor-audit audit.form audit.limit audit.full _ _ g.D.Dumps.state _ _ _ read.loads read.bodies)
