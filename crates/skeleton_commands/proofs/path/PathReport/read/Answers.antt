use Rattle.std.proofs.Common.{arith, rules, ℕ}
use Rattle.dump_questions.specs.Laws.Reading.{IsHalted-reading, IsHalted-subject, ReadsFor-halted}
use Rattle.skeleton_commands.proofs.PathLoads.{path-takes, ReadsFor-path}
use Rattle.skeleton_commands.specs.Rows.{path_row}
use Rattle.skeleton_commands.proofs.path.PathReport.read.Goals as goal

pub returns-in_err-find_process-clause-reads : goal.returns-in_err-find_process-clause-reads
returns-in_err-find_process-clause-reads g c =
    let t = c.args.self.now in
    ReadsFor-halted _ _ c.from_residual.result _ c.from_residual.ensures.1
    (IsHalted-subject (path_row t.pid.now t.addr) _ c.args.at.now.index.now _ _ ℕ _ (search rules) c.in_err-find_process.ensures.judges)

pub returns-in_err-found-clause-reads : goal.returns-in_err-found-clause-reads
returns-in_err-found-clause-reads g c =
    let t = c.args.self.now in
    let sought = c.in_err-found.ensures in
    ReadsFor-halted _ _ c.from_residual-in_err-found.result _ c.from_residual-in_err-found.ensures.1
    (IsHalted-reading (path_row t.pid.now t.addr) _ c.args.at.now.index.now _ _ _
    (path-takes t.pid.now t.addr _ c.args.at.now.index.now _ _ c.in_ok-find_process.ensures.judges _ sought.reads (omega arith)) sought.fault)

pub returns-clause-reads : goal.returns-clause-reads
returns-clause-reads g c =
    let t = c.args.self.now in
    let at = c.args.at.now in
    let found = c.in_ok-found in
    let judged = c.or_no_cell.ensures in
    ReadsFor-path t.pid.now t.addr at.limits.now at.index.now (g.D.Dumps.state c.args.dumps.now) (g.D.Dumps.state c.load.new.dumps)
    c.in_ok-find_process.ensures.judges _ found.ensures.reads (omega arith) found.found found.ensures.way c.or_no_cell.result judged.judges judged.found
