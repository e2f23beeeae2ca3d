use Rattle.std.proofs.Common.{◌≡◌, filter, All}
use Rattle.root_views.specs.Roots.{has_text}
use Rattle.root_views.specs.Inner.Lines.{IsSmall}
use Rattle.root_views.proofs.texts.next_text.Given as goal

abbrev pub invariant-loop-line : goal.invariant-loop-line
invariant-loop-line l =
    (goal.iterator-loop-line).can_next l.lines × (goal.iterator-loop-line).is_finite l.lines
    × (filter has_text l.fn.lines ≡ filter has_text l.lines) × (All IsSmall l.fn.lines → All IsSmall l.lines)
