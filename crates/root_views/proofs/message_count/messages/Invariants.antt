use Rattle.std.proofs.Common.{◌≡◌, ◌+◌, filter, length}
use Rattle.root_views.specs.Roots.{has_text, root_lines}
use Rattle.root_views.proofs.message_count.messages.Given as goal

abbrev pub invariant-loop-line : goal.invariant-loop-line
invariant-loop-line l = l.count + length (filter has_text l.lines) ≡ length (root_lines l.body)

abbrev pub decreases-loop-line : goal.decreases-loop-line
decreases-loop-line l = length (filter has_text l.lines)
