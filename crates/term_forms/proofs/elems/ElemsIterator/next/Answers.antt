use Rattle.std.proofs.Common.{◌≡◌, ◌-◌, ◌<◌, [], ◌∷◌, length, ap, sym, ◌∙◌, arith}
use Rattle.std.specs.Option.{is_some}
use Rattle.std.proofs.lemmas.Bool.{false≢true}
use Rattle.term_forms.specs.ReadingForms.{joined_list}
use Rattle.term_forms.specs.Seen.{element}
use Rattle.term_forms.proofs.Joins.{joined_list_none, joined_list_first, with_first_none, with_first_some}
use Rattle.term_forms.proofs.elems.ElemsIterator.next.Goals as goal

pub returns-then-self-eq0-clause-steps : goal.returns-then-self-eq0-clause-steps
returns-then-self-eq0-clause-steps c =
    let text = c.self.inside.text.now in
    let none : c.args.self.now ≡ [] = sym c.self.view_is ∙ ap (λ n. joined_list n text) c.if-self-eq0.true ∙ joined_list_none text in
    (none, none)

pub returns-in_err-first-clause-steps : goal.returns-in_err-first-clause-steps
returns-in_err-first-clause-steps c =
    absurd (false≢true (sym (ap is_some (c.in_err-first.ensures ∙ with_first_none (c.self.inside.left - 1))) ∙ c.self.invariant))

pub invariant_of-self : goal.invariant_of-self
invariant_of-self c =
    sym (with_first_some (c.self.inside.left - 1) (element c.in_ok-first.first) c.in_ok-first.rest.now)
    ∙ sym (ap is_some c.in_ok-first.ensures) ∙ c.self.invariant

pub returns-clause-steps : goal.returns-clause-steps
returns-clause-steps c =
    sym c.self.view_is
    ∙ joined_list_first c.self.inside.left (c.self.inside.left - 1) c.self.inside.text.now (element c.in_ok-first.first) c.in_ok-first.rest.now
    c.in_ok-first.ensures c.self.invariant

pub returns-clause-goes : goal.returns-clause-goes
returns-clause-goes c =
    let split : c.args.self.now ≡ element c.in_ok-first.first ∷ joined_list (c.self.inside.left - 1) c.in_ok-first.rest.now = returns-clause-steps c in
    let fewer : length (joined_list (c.self.inside.left - 1) c.in_ok-first.rest.now) < length c.args.self.now = omega (arith, ap length split) in
    record { on = λ _. (tt, tt, fewer); keeps = tt; rests = λ _. tt }
