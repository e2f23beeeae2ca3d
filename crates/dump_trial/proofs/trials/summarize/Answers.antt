use Rattle.std.proofs.Common.{◌≡◌, subst}
use Rattle.std.specs.Prelude.{IfOk}
use Rattle.dump_trial.specs.Trial.{summary_of}
use Rattle.dump_trial.proofs.trials.summarize.Goals as goal

pub returns : goal.returns
returns c = subst (λ bytes. IfOk c.summarize_processes.result (λ summary. summary ≡ summary_of bytes)) c.in_ok-procs.ensures.same c.summarize_processes.ensures
