use Rattle.dump_laws.proofs.Peeks.{peeks-roots, peeks-terms}
use Rattle.dump_laws.proofs.laws.peek_reports_the_same.Goals as goal

pub returns-clause-terms : goal.returns-clause-terms
returns-clause-terms c = peeks-terms

pub returns-clause-roots : goal.returns-clause-roots
returns-clause-roots c = peeks-roots
