use Rattle.std.proofs.Common.{◌≤◌, length}
use Rattle.link_graph.specs.Inner.Searching.{Nowhere}
use Rattle.link_graph.proofs.kinds.last_comma.Given as goal

-- no comma stands from `end` on
abbrev pub invariant-loop-end : goal.invariant-loop-end
invariant-loop-end l = (l.end ≤ length l.text) × Nowhere 44 l.text l.end (length l.text)

abbrev pub decreases-loop-end : goal.decreases-loop-end
decreases-loop-end l = l.end
