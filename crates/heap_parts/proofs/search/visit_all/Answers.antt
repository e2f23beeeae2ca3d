use Rattle.heap_parts.proofs.GrowFacts.{Grows-then}
use Rattle.heap_parts.proofs.search.visit_all.Goals as goal

pub loop-preserved : goal.loop-preserved
loop-preserved g c = record { grows = Grows-then c.loop.invariant.grows c.in_ok-visit.ensures.grows }
