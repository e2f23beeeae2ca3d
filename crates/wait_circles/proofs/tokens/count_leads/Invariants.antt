use Rattle.std.proofs.Common.{take}
use Rattle.std.specs.Prelude.{length}
use Rattle.wait_circles.specs.Inner.Leading.{CountsTokens}
use Rattle.wait_circles.proofs.tokens.count_leads.Given as goal

-- the tokens so far are counted
abbrev pub invariant-loop-v : goal.invariant-loop-v
invariant-loop-v l = CountsTokens (take l.v l.leads) l.counts.items (length l.leads)
