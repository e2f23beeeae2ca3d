use Rattle.std.proofs.Common.{refl, ap}
use Rattle.term_unfold.specs.Inner.Entries.{Entered}
use Rattle.term_unfold.proofs.Turns_made.{IsTurn-bad, IsTurn-item}
use Rattle.term_unfold.proofs.turns.turn_item.Goals as goal

pub returns-in-Bad-clause-turn : goal.returns-in-Bad-clause-turn
returns-in-Bad-clause-turn c =
    IsTurn-bad _ _ _ _ _ c.requires.at _ _ c.in-Bad.field-0 c.in-Bad.field-1 c.requires.kind c.in-Bad.is c.comma_text.ensures (ap (λ (p : Entered). p.entries) c.advance.ensures)

pub returns : goal.returns
returns c = record {
  cells = ap (λ (p : Entered). p.cells) c.advance-2.ensures;
  turn = IsTurn-item _ _ _ _ _ c.requires.at _ _ c.requires.kind c.in_default.not-Bad refl (ap (λ (p : Entered). p.entries) c.advance-2.ensures);
}
