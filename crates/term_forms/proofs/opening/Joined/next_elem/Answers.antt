use Rattle.std.proofs.Common.{◌≡◌, ◌-◌, None, refl, ap, sym, ◌∙◌, subst, arith}
use Rattle.std.specs.Prelude.{IfNone}
use Rattle.term_forms.specs.Seen.{element}
use Rattle.term_forms.specs.SeenPlaces.{placed}
use Rattle.term_forms.specs.Unread.{Unread, IsFirstOf}
use Rattle.term_forms.specs.ReadingForms.{joined_of}
use Rattle.term_forms.proofs.Joins.{with_first_none, with_first_is}
use Rattle.term_forms.proofs.opening.Joined.next_elem.Goals as goal

pub returns-in_err-found-clause-none : goal.returns-in_err-found-clause-none
returns-in_err-found-clause-none c =
    let none = ap (λ u. u.elements) (sym c.self.view_is) ∙ c.in_err-found.ensures.joined ∙ with_first_none (c.self.inside.left - 1) in
    subst (λ o. IfNone o (c.args.self.now.elements ≡ None)) (sym c.from_residual.ensures) none

pub returns-clause-first : goal.returns-clause-first
returns-clause-first c =
    let s = c.self.inside in
    let rest = c.in_ok-found.rest.now in
    let left : Unread = record { text = s.text.now; count = s.left - 1; elements = joined_of (s.left - 1) rest } in
    subst (λ (all : Unread). IsFirstOf all left (placed c.in_ok-found.found)) c.self.view_is
    (record {
      text = refl;
      count = let some = c.requires in let is = ap (λ u. u.count) c.self.view_is in omega (arith, some, is);
      elements = c.in_ok-found.ensures.joined ∙ with_first_is (s.left - 1) (element c.in_ok-found.found.elem) rest;
      stands = c.in_ok-found.ensures.stands;
    })
