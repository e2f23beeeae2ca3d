use Rattle.std.proofs.Common.{false, drop, refl, ap, arith}
use Rattle.std.specs.Prelude.{codes}
use Rattle.term_unfold.specs.Inner.Entries.{Entered}
use Rattle.term_unfold.proofs.Stepping.{step-head, cons-term}
use Rattle.term_unfold.proofs.Turns_made.{IsTurn-own}
use Rattle.term_unfold.proofs.turns.turn_list.Goals as goal

pub returns-clause-turn : goal.returns-clause-turn
returns-clause-turn c =
    let e = c.args.entry in
    let at = c.requires.at in
    IsTurn-own _ _ _ _ _ at _ _ (codes "") false (cons-term _ e _ c.requires.kind at.at) refl (ap (λ (p : Entered). p.entries) c.advance.ensures)
    (λ leaf m. step-head leaf _ e (drop 1 c.args.path.now.entries) _ m c.requires.kind (omega (arith, c.if-entry-gt0.false)) at.at)
