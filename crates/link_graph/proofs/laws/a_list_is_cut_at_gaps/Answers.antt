use Rattle.link_graph.proofs.CutLaws.{AreCut-cut, AreCut-only}
use Rattle.link_graph.proofs.laws.a_list_is_cut_at_gaps.Goals as goal

pub returns-clause-divides : goal.returns-clause-divides
returns-clause-divides c = AreCut-cut

pub returns-clause-only : goal.returns-clause-only
returns-clause-only c = AreCut-only
