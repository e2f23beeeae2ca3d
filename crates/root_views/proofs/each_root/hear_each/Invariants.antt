use Rattle.std.proofs.Common.{map}
use Rattle.std.specs.Prelude.{All}
use Rattle.root_views.specs.Roots.{IsInside}
use Rattle.root_views.specs.Placed.{placed, placed_roots}
use Rattle.root_views.proofs.EachFacts.{HeardFront}
use Rattle.root_views.proofs.each_root.hear_each.Given as goal

-- the roots in front of those to come were heard
abbrev pub invariant-loop-found : goal.invariant-loop-found
invariant-loop-found g l =
    (goal.iterator-loop-found g).can_next l.found-iterator
    × (goal.iterator-loop-found g).is_finite l.found-iterator
    × All (IsInside l.run) l.found-iterator
    × g.S.EachRoot.ready l.sink
    × HeardFront g.S.EachRoot.hears l.initial.sink l.sink (placed_roots l.fn.kind l.at l.run) (map (placed l.at) l.found-iterator)
