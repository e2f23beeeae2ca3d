use Rattle.heap_parts.proofs.GrowFacts.{Grows-then}
use Rattle.heap_parts.proofs.search.gather_root.Goals as goal

pub returns-clause-grows : goal.returns-clause-grows
returns-clause-grows g c = Grows-then c.in_ok-line.ensures.grows (Grows-then c.in_ok-open_line.ensures.grows c.in_ok-visit_all.ensures.grows)
