use Rattle.std.proofs.Common.{◌≡◌, ◌-◌, ap, sym, ◌∙◌, arith}
use Rattle.std.specs.Option.{is_some}
use Rattle.term_forms.specs.ReadingForms.{joined_of}
use Rattle.term_forms.specs.Seen.{element}
use Rattle.term_forms.proofs.Joins.{joined_nothing, with_first_none, with_first_some}
use Rattle.term_forms.proofs.elems.are_joined.Goals as goal

pub returns-in_default : goal.returns-in_default
returns-in_default c =
    sym (ap is_some (c.in_default.ensures ∙ with_first_none (c.loop-left.left - 1))) ∙ c.loop-left.invariant

pub loop-left-preserved : goal.loop-left-preserved
loop-left-preserved c =
    sym (with_first_some (c.loop-left.left - 1) (element c.in-Some.field-0-0) c.in-Some.others.now)
    ∙ sym (ap is_some c.in-Some.ensures) ∙ c.loop-left.invariant

pub returns : goal.returns
returns c =
    let rest = c.loop-left.rest.now in
    let none : c.loop-left.left ≡ 0 = omega arith in
    c.is_empty.ensures ∙ sym (joined_nothing rest) ∙ ap (λ n. is_some (joined_of n rest)) (sym none) ∙ c.loop-left.invariant
