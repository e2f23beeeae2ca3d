use Rattle.std.proofs.Common.{◌∙◌, ap, length}
use Rattle.dump_trial.proofs.trials.count_findings.Goals as goal

pub returns : goal.returns
returns c = c.len.ensures ∙ c.in_ok-found.found.ok.0 ∙ ap length c.in_ok-found.ensures.found
