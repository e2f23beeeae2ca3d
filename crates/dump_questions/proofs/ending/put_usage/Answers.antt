use Rattle.dump_questions.specs.Laws.Runs.{EndsTold-put}
use Rattle.dump_questions.proofs.ending.put_usage.Goals as goal

pub returns : goal.returns
returns g c = EndsTold-put _ _ _ _ _ c.write_all.result c.status_of.ensures c.write_all.ensures.puts
