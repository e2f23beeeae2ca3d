use Rattle.std.proofs.Common.{List, ◌∷◌, ◌++◌, sym, ◌∙◌, ap}
use Rattle.term_forms.specs.Words.{comma}
use Rattle.term_forms.specs.Elements.{Element, plain_elem}
use Rattle.term_forms.specs.Joined.{plain_joined}
use Rattle.term_forms.specs.Seen.{element}
use Rattle.term_forms.proofs.Joining.{with_commas, joined_first, under_start, under_step, under_broken, under_done}
use Rattle.term_forms.proofs.writing.put_joined.Goals as goal

pub loop-e-init : goal.loop-e-init
loop-e-init c =
    let e = element c.in-Some.first in
    let left = c.next.new.self in
    under_start (plain_elem e) (with_commas c.into_iter-e-iterator.result) (plain_joined c.args.elements.now)
    (ap plain_joined (sym c.again-rest.ensures ∙ c.in-Some.ensures.steps) ∙ joined_first e left
    ∙ ap (λ (es : List Element). plain_elem e ++ with_commas es) (sym c.into_iter-e-iterator.ensures.into_iter_gives))
    c.in_ok-put_elem.ensures

pub loop-e-preserved : goal.loop-e-preserved
loop-e-preserved c =
    let e = element c.in-Some-e.e in
    let left = c.next-in-loop-e.new.self in
    under_step (with_commas c.loop-e.e-iterator) (comma ∷ plain_elem e) (with_commas left) (plain_joined c.args.elements.now)
    c.loop-e.invariant (ap with_commas c.in-Some-e.ensures.steps) c.in_ok-put_next.ensures

pub returns-in_err-put_next : goal.returns-in_err-put_next
returns-in_err-put_next c =
    let e = element c.in-Some-e.e in
    let left = c.next-in-loop-e.new.self in
    under_broken (with_commas c.loop-e.e-iterator) (comma ∷ plain_elem e) (with_commas left) (plain_joined c.args.elements.now)
    c.loop-e.invariant (ap with_commas c.in-Some-e.ensures.steps) c.from_residual-in_err-put_next.ensures.0 c.in_err-put_next.ensures

pub returns : goal.returns
returns c =
    under_done (with_commas c.loop-e.e-iterator) (plain_joined c.args.elements.now) c.loop-e.invariant
    (ap with_commas c.in-None.ensures.steps.0)
