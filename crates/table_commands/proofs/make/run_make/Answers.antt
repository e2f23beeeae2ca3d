use Rattle.std.proofs.Common.{refl}
use Rattle.std.proofs.lemmas.Result.{err_from_is_err_and}
use Rattle.dump_write.specs.Made.{made}
use Rattle.table_commands.specs.Rows.{make_task}
use Rattle.dump_questions.specs.Laws.Runs.{RunsAlone-told}
use Rattle.table_commands.proofs.make.run_make.Goals as goal

pub returns-in_err-dump : goal.returns-in_err-dump
returns-in_err-dump g c =
    let p = err_from_is_err_and c.from_residual.result c.from_residual.ensures.1 in
    rw (p.1, p.2) (RunsAlone-told (make_task c.args.seed c.args.count) _ _ (made c.args.seed c.args.count) _ refl (λ _ _. (refl, refl, refl)) refl)
