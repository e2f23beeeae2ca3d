use Rattle.std.proofs.Common.{length}
use Rattle.process_stacks.specs.Inner.Hearing.{IsOpen}
use Rattle.process_stacks.proofs.FrameFacts.{TookFront}
use Rattle.process_stacks.proofs.frames.take_frames.Given as goal

-- the infos in front of the rest were taken
abbrev pub invariant-loop-rest : goal.invariant-loop-rest
invariant-loop-rest l = record { ready : IsOpen l.sink; took : TookFront l.initial.sink l.sink l.run l.rest }

abbrev pub decreases-loop-rest : goal.decreases-loop-rest
decreases-loop-rest l = length l.rest
