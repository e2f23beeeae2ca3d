use Rattle.std.proofs.Common.{length}
use Rattle.tuple_fronts.proofs.RunFacts.{HasTaken}
use Rattle.tuple_fronts.proofs.runs.keep_run.Given as goal

-- the fronts of the cells whose lines stand in front of the rest were kept
abbrev pub invariant-loop-rest : goal.invariant-loop-rest
invariant-loop-rest l = HasTaken l.skeleton l.enc l.fn.kept l.kept l.at l.run l.cells l.line l.rest l.left

abbrev pub decreases-loop-rest : goal.decreases-loop-rest
decreases-loop-rest l = length l.left
