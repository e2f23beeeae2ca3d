use Rattle.std.proofs.Common.{◌≡◌}
use Rattle.std.specs.Option.{is_some}
use Rattle.term_forms.specs.ReadingForms.{joined_of}
use Rattle.term_forms.proofs.elems.are_joined.Given as goal

abbrev pub invariant-loop-left : goal.invariant-loop-left
invariant-loop-left l = is_some (joined_of l.left l.rest) ≡ is_some (joined_of l.fn.count l.fn.text)

abbrev pub decreases-loop-left : goal.decreases-loop-left
decreases-loop-left l = l.left
