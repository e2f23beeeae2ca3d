use Rattle.std.proofs.Common.{rules, sym, Some, ℕ}
use Rattle.dump_sections.specs.Bodies.{section_in}
use Rattle.table_commands.specs.Rows.{fields_of, proc_row}
use Rattle.dump_questions.specs.Meaning.{no_process, process_section}
use Rattle.dump_questions.specs.Laws.Reading.{IsHalted-subject, ReadsFor-halted, ReadsFor-part}
use Rattle.table_commands.proofs.proc.ProcReport.read.Goals as goal

pub returns-in_err-place-clause-reads : goal.returns-in_err-place-clause-reads
returns-in_err-place-clause-reads g c =
    ReadsFor-halted _ _ c.from_residual.result _ c.from_residual.ensures.1 (IsHalted-subject (proc_row c.args.self.now.pid.now) _ c.args.at.now.index.now _ _ ℕ _ (search rules) c.in_err-place.ensures.judges)

pub returns-clause-reads : goal.returns-clause-reads
returns-clause-reads g c =
    let pid = c.args.self.now.pid.now in
    let index = c.args.at.now.index.now in
    let place = c.in_ok-place.ensures in
    let found = section_in index (Some c.in_ok-place.place) in
    rw c.or_stop.ensures (ReadsFor-part (no_process pid) (process_section pid) fields_of _ index g.D.Dumps.state _ _ found _ place.judges (sym place.there) c.read_found.ensures.loads c.read_found.ensures.body)
