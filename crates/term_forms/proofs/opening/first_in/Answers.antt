use Rattle.std.proofs.lemmas.List.{append-nil}
use Rattle.std.proofs.Common.{◌≡◌, ◌-◌, Some, [], ◌∷◌, ◌++◌, ap, sym, ◌∙◌, arith}
use Rattle.std.specs.Option.{option_map}
use Rattle.term_forms.specs.Reading.{◌>>=◌}
use Rattle.term_forms.specs.ReadingForms.{joined_of, with_first}
use Rattle.term_forms.specs.Seen.{element}
use Rattle.term_forms.specs.Inner.Ends.{placed_rest}
use Rattle.term_forms.proofs.Joins.{joined_one, joined_several, with_first_none, with_first_last}
use Rattle.term_forms.proofs.opening.first_in.Goals as goal

pub returns-in_err-found-clause-joined : goal.returns-in_err-found-clause-joined
returns-in_err-found-clause-joined c =
    let rest = c.args.rest.now in
    ap (λ n. joined_of n rest) c.if-count-eq1.true ∙ joined_one rest
    ∙ ap (λ o. o >>= λ e. Some (e ∷ [])) (sym c.in_err-found.ensures.whole)
    ∙ sym (with_first_none (c.args.count - 1)) ∙ ap (λ o. with_first (c.args.count - 1) (option_map placed_rest o)) (sym c.from_residual.ensures)

pub returns-in_ok-found-clause-joined : goal.returns-in_ok-found-clause-joined
returns-in_ok-found-clause-joined c =
    let rest = c.args.rest.now in
    let e = element c.in_ok-found.found.elem in
    let none : 0 ≡ c.args.count - 1 = omega arith in
    ap (λ n. joined_of n rest) c.if-count-eq1.true ∙ joined_one rest
    ∙ ap (λ o. o >>= λ e. Some (e ∷ [])) (sym c.in_ok-found.ensures.whole)
    ∙ sym (with_first_last e) ∙ ap (λ n. with_first n (Some (e, []))) none
    ∙ ap (λ others. with_first (c.args.count - 1) (Some (e, others))) (sym c.end_of.ensures)

pub returns-else-count-eq1-clause-joined : goal.returns-else-count-eq1-clause-joined
returns-else-count-eq1-clause-joined c =
    joined_several c.args.count c.args.rest.now (omega arith)
    ∙ ap (λ o. with_first (c.args.count - 1) o) (sym c.elem_in.ensures.until)

pub returns-in_ok-found-clause-end : goal.returns-in_ok-found-clause-end
returns-in_ok-found-clause-end c =
    let text = c.args.text.now in
    record { before = text; split = sym (append-nil text) ∙ ap (λ l. text ++ l) (sym c.end_of.ensures) }
