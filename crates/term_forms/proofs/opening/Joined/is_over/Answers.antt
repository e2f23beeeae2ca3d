use Rattle.std.proofs.Common.{◌≡◌, None, Some, [], length, ap, sym, ◌∙◌}
use Rattle.std.proofs.lemmas.Bool.{OnTrue_from, OnFalse_from, eqb-true, eqb-false}
use Rattle.term_forms.specs.ReadingForms.{joined_of}
use Rattle.term_forms.proofs.Ends.{over, not-over}
use Rattle.term_forms.proofs.opening.Joined.is_over.Goals as goal

pub returns-clause-over : goal.returns-clause-over
returns-clause-over c =
    let rest = c.self.inside.rest.now in
    OnTrue_from c.is_empty.result (c.args.self.now.elements ≡ Some [])
    (λ t.
    ap (λ u. u.elements) (sym c.self.view_is) ∙ ap (λ n. joined_of n rest) (ap (λ u. u.count) c.self.view_is ∙ c.requires)
    ∙ over rest (eqb-true (length rest) 0 (sym c.is_empty.ensures ∙ t)))

pub returns-clause-more : goal.returns-clause-more
returns-clause-more c =
    let rest = c.self.inside.rest.now in
    OnFalse_from c.is_empty.result (c.args.self.now.elements ≡ None)
    (λ f.
    ap (λ u. u.elements) (sym c.self.view_is) ∙ ap (λ n. joined_of n rest) (ap (λ u. u.count) c.self.view_is ∙ c.requires)
    ∙ not-over rest (eqb-false (length rest) 0 (sym c.is_empty.ensures ∙ f)))
