use Rattle.wait_circles.specs.Inner.Numbering.{AreNumbered}
use Rattle.wait_circles.proofs.numbering.number_all.Given as goal

-- the targets so far have their numbers
abbrev pub invariant-loop-process : goal.invariant-loop-process
invariant-loop-process g l = AreNumbered (g.W.Waiting.waiters l.waiting) l.others l.leads.items l.process
