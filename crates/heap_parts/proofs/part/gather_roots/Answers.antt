use Rattle.heap_parts.proofs.GrowFacts.{Grows-then}
use Rattle.heap_parts.proofs.part.gather_roots.Goals as goal

pub loop-root-preserved : goal.loop-root-preserved
loop-root-preserved g c = record { grows = Grows-then c.loop-root.invariant.grows c.in_ok-gather_root.ensures.grows }
