use Rattle.std.proofs.Common.{true, drop, ap}
use Rattle.term_unfold.specs.Inner.Entries.{Entered}
use Rattle.term_unfold.specs.Inner.Rest.{front_of}
use Rattle.term_unfold.proofs.Stepping.{step-terms, terms-child}
use Rattle.term_unfold.proofs.Turns_made.{IsTurn-own}
use Rattle.term_unfold.proofs.turns.turn_terms.Goals as goal

pub returns-clause-turn : goal.returns-clause-turn
returns-clause-turn c =
    let e = c.args.entry in
    let at = c.requires.at in
    IsTurn-own _ _ _ _ _ at _ _ (front_of e) true (terms-child _ e _ c.requires.kind at.at) c.front_text.ensures (ap (λ (p : Entered). p.entries) c.advance.ensures)
    (λ leaf m. step-terms leaf _ e (drop 1 c.args.path.now.entries) _ m c.requires.kind at.at)
