use Rattle.std.proofs.Common.{◌≡◌, ◌+◌, length}
use Rattle.root_views.specs.Kinds.{roots_in}
use Rattle.root_views.proofs.root_count.root_count.Given as goal

-- the roots so far are counted
abbrev pub invariant-loop-root : goal.invariant-loop-root
invariant-loop-root l =
    (goal.iterator-loop-root).can_next l._root-iterator × (goal.iterator-loop-root).is_finite l._root-iterator
    × (l.count + length l._root-iterator ≡ length (roots_in l.fn.kind l.bytes))
