use Rattle.std.proofs.Common.{rules, ℕ}
use Rattle.dump_questions.specs.Laws.Reading.{IsHalted-subject, ReadsFor-halted}
use Rattle.heap_commands.specs.Inner.Loads.{shown_row}
use Rattle.heap_commands.proofs.peek.PeekRootsReport.read.Goals as goal

pub returns-in_err-find_process-clause-reads : goal.returns-in_err-find_process-clause-reads
returns-in_err-find_process-clause-reads g c =
    ReadsFor-halted _ _ c.from_residual.result _ c.from_residual.ensures.1
    (IsHalted-subject (shown_row c.args.self.now) _ c.args.at.now.index.now _ _ ℕ _ (search rules) c.in_err-find_process.ensures.judges)
