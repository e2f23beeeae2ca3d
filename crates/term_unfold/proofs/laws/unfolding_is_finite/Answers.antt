use Rattle.term_unfold.proofs.Levels.{follows_rules, enough}
use Rattle.term_unfold.proofs.Suiting.{unfolded-suits}
use Rattle.term_unfold.proofs.laws.unfolding_is_finite.Goals as goal

pub returns-clause-rules : goal.returns-clause-rules
returns-clause-rules c = follows_rules

pub returns-clause-enough : goal.returns-clause-enough
returns-clause-enough c = enough

pub returns-clause-suits : goal.returns-clause-suits
returns-clause-suits c = unfolded-suits
