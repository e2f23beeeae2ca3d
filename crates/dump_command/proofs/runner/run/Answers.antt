use Rattle.std.proofs.Common.{sym}
use Rattle.dump_questions.specs.Laws.Runs.{IsProper-ended, IsRunOf-ended, IsRunOf-complete}
use Rattle.dump_command.proofs.Asked.{IsRunOf-same}
use Rattle.dump_command.specs.Report.{task}
use Rattle.dump_command.proofs.runner.run.Goals as goal

pub end-requires : goal.end-requires
end-requires g c = IsProper-ended _ _ _ _ _ _ c.run_command-ended.result c.run_command-ended.ensures.runs

pub returns-in-Some-clause-ends : goal.returns-in-Some-clause-ends
returns-in-Some-clause-ends g c cmd is =
    IsRunOf-same _ _ cmd _ _ _ _ _ _ _ _ (sym c.in-Some.ensures.reads) is (IsRunOf-ended _ _ _ _ _ _ _ _ _ c.run_command-ended.result c.run_command-ended.ensures.runs c.end.ensures)

pub returns-in-Some-clause-complete : goal.returns-in-Some-clause-complete
returns-in-Some-clause-complete g c cmd bytes is =
    IsRunOf-complete (task cmd) _ _ _ _ _ _ _ _ (returns-in-Some-clause-ends g c cmd is) bytes
