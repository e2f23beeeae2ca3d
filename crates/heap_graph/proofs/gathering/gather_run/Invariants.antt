use Rattle.std.proofs.Common.{length}
use Rattle.heap_graph.specs.Held.{IsSmall}
use Rattle.heap_graph.specs.Laws.Gains.{TookFront}
use Rattle.heap_graph.proofs.gathering.gather_run.Given as goal

-- the heap lines in front of the rest were gathered
abbrev pub invariant-loop-rest : goal.invariant-loop-rest
invariant-loop-rest l = record { small : IsSmall l.held; took : TookFront l.enc l.fn.held l.held l.at l.run l.line l.rest }

abbrev pub decreases-loop-rest : goal.decreases-loop-rest
decreases-loop-rest l = length l.rest
