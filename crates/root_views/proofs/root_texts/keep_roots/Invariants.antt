use Rattle.std.proofs.Common.{◌≡◌}
use Rattle.std.specs.Prelude.{All}
use Rattle.root_views.specs.Roots.{IsInside}
use Rattle.root_views.specs.Inner.Keeping.{kept_all}
use Rattle.root_views.proofs.KeepFacts.{IsKeeping}
use Rattle.root_views.proofs.root_texts.keep_roots.Given as goal

-- of the roots so far those are kept that are asked for
abbrev pub invariant-loop-found : goal.invariant-loop-found
invariant-loop-found l =
    (goal.iterator-loop-found).can_next l.found-iterator
    × (goal.iterator-loop-found).is_finite l.found-iterator
    × All (IsInside l.raw) l.found-iterator
    × (l.kept.kind ≡ l.initial.kept.kind)
    × (l.kept.lines ≡ l.initial.kept.lines)
    × IsKeeping l.initial.kept.kind l.initial.kept.lines.items (kept_all l.initial.kept) l.raw l.at l.skip l.most l.place l.found-iterator l.kept.roots.items
