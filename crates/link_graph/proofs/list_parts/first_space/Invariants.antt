use Rattle.link_graph.specs.Inner.Searching.{Nowhere}
use Rattle.link_graph.proofs.list_parts.first_space.Given as goal

-- no space stands before `i`
abbrev pub invariant-loop-i : goal.invariant-loop-i
invariant-loop-i l = Nowhere 32 l.text 0 l.i
