use Rattle.std.proofs.Common.{◌≡◌, [], length, ◌≤◌, subst}
use Rattle.std.specs.Prelude.{IfSome}
use Rattle.term_forms.specs.Unread.{Unread}
use Rattle.term_forms.proofs.Ends.{end-few, end-over}
use Rattle.term_forms.proofs.opening.Joined.left.Goals as goal

pub returns-clause-few : goal.returns-clause-few
returns-clause-few c =
    let s = c.self.inside in
    subst (λ (u : Unread). IfSome u.elements (λ es. length es ≤ length u.text)) c.self.view_is (end-few s.text.now s.rest.now s.left c.self.invariant)

pub returns-clause-over : goal.returns-clause-over
returns-clause-over c none =
    let s = c.self.inside in
    subst (λ (u : Unread). IfSome u.elements (λ es. es ≡ [])) c.self.view_is (end-over s.rest.now s.left none)
