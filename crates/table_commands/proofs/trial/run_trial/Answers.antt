use Rattle.std.proofs.Common.{refl}
use Rattle.std.proofs.lemmas.Result.{err_from_is_err_and}
use Rattle.dump_trial.specs.Tallies.{trial_report}
use Rattle.dump_trial.specs.Trial.{trial_of}
use Rattle.table_commands.specs.Rows.{trial_task}
use Rattle.dump_questions.specs.Laws.Runs.{RunsAlone-told}
use Rattle.table_commands.proofs.trial.run_trial.Goals as goal

pub returns-in_err-summary : goal.returns-in_err-summary
returns-in_err-summary g c =
    let p = err_from_is_err_and c.from_residual.result c.from_residual.ensures.1 in
    rw (p.1, p.2) (RunsAlone-told (trial_task c.args.seed c.args.count) _ _ (trial_report (trial_of c.args.seed c.args.count)) _ refl (λ _ _. (refl, refl, refl)) refl)
