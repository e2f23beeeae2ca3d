use Rattle.std.proofs.Common.{map, take}
use Rattle.link_graph.specs.Inner.Sets.{AreKindsOf}
use Rattle.link_graph.specs.Seen.{shown_kind}
use Rattle.link_graph.proofs.lists.all_kinds.Given as goal

-- the kinds of the entries so far
abbrev pub invariant-loop-entry : goal.invariant-loop-entry
invariant-loop-entry l = AreKindsOf (take l.entry-index l.entries) (map shown_kind l.kinds.items)
