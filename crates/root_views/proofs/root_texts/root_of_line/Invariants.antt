use Rattle.std.proofs.Common.{◌≡◌, ◌<◌, length}
use Rattle.std.specs.Prelude.{slice_get}
use Rattle.root_views.specs.Kinds.{roots_in}
use Rattle.root_views.proofs.root_texts.root_of_line.Given as goal

-- the root is still to come
abbrev pub invariant-loop-found : goal.invariant-loop-found
invariant-loop-found l =
    (goal.iterator-loop-found).can_next l.found-iterator × (goal.iterator-loop-found).is_finite l.found-iterator
    × (l.before < length l.found-iterator)
    × (slice_get l.found-iterator l.before ≡ slice_get (roots_in l.fn.kind l.raw) l.place)
