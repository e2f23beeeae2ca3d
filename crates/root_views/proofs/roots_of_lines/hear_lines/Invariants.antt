use Rattle.std.proofs.Common.{length}
use Rattle.root_views.specs.Inner.Hearing.{IsReady}
use Rattle.root_views.proofs.HearFacts.{TookFront}
use Rattle.root_views.proofs.roots_of_lines.hear_lines.Given as goal

-- the roots of the lines in front of the rest were taken
abbrev pub invariant-loop-rest : goal.invariant-loop-rest
invariant-loop-rest l = record { ready : IsReady l.sink; took : TookFront l.initial.sink l.sink l.at l.run l.line l.rest }

abbrev pub decreases-loop-rest : goal.decreases-loop-rest
decreases-loop-rest l = length l.rest
