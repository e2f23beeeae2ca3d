use Rattle.std.proofs.Common.{Some}
use Rattle.term_forms.specs.Joined.{plain_joined}
use Rattle.term_forms.proofs.Joining.{IsUnder, with_commas}
use Rattle.term_forms.proofs.writing.put_joined.Given as goal

abbrev pub invariant-loop-e : goal.invariant-loop-e
invariant-loop-e l = IsUnder (Some l.fn.into.items) (Some l.into.items) (with_commas l.e-iterator) (plain_joined l.fn.elements)
