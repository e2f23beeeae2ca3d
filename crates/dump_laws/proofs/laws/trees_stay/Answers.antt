use Rattle.dump_laws.proofs.SameHeaps.{keeps-leaves, keeps-roots, keeps-trees, keeps-verdicts}
use Rattle.dump_laws.proofs.laws.trees_stay.Goals as goal

pub returns-clause-roots : goal.returns-clause-roots
returns-clause-roots c = keeps-roots c.sections_stay.ensures.sections c.bodies_are_redacted.ensures.sections c.bodies_are_redacted.ensures.others

pub returns-clause-trees : goal.returns-clause-trees
returns-clause-trees c = keeps-trees c.heaps_stay.ensures.heaps

pub returns-clause-verdicts : goal.returns-clause-verdicts
returns-clause-verdicts c = keeps-verdicts c.heaps_stay.ensures.heaps

pub returns-clause-leaves : goal.returns-clause-leaves
returns-clause-leaves c = keeps-leaves c.heaps_stay.ensures.heaps
