use Rattle.std.proofs.Common.{arith, rules, ℕ}
use Rattle.dump_questions.specs.Laws.Reading.{IsHalted-subject, ReadsFor-halted}
use Rattle.skeleton_commands.proofs.WeightLoads.{ReadsFor-cell}
use Rattle.skeleton_commands.specs.Rows.{weigh_cell_row}
use Rattle.skeleton_commands.proofs.weigh.WeighCellReport.read.Goals as goal

pub returns-in_err-find_process-clause-reads : goal.returns-in_err-find_process-clause-reads
returns-in_err-find_process-clause-reads g c =
    let t = c.args.self.now in
    ReadsFor-halted _ _ c.from_residual.result _ c.from_residual.ensures.1
    (IsHalted-subject (weigh_cell_row t.pid.now t.count t.addr) _ c.args.at.now.index.now _ _ ℕ _ (search rules) c.in_err-find_process.ensures.judges)

pub returns-clause-reads : goal.returns-clause-reads
returns-clause-reads g c =
    let t = c.args.self.now in
    let at = c.args.at.now in
    let found = c.in_ok-found in
    let judged = c.or_no_address.ensures in
    ReadsFor-cell t.pid.now t.count t.addr at.limits.now at.index.now (g.D.Dumps.state c.args.dumps.now) (g.D.Dumps.state c.of_cell.new.dumps)
    c.in_ok-find_process.ensures.judges _ found.ensures.reads (omega arith) found.found found.ensures.weights c.or_no_address.result judged.judges judged.found
