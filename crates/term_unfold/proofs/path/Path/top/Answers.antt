use Rattle.std.proofs.Common.{◌≡◌, ◌+◌, length, ◌≤◌, subst}
use Rattle.std.specs.Prelude.{reverse}
use Rattle.term_unfold.specs.Inner.Entries.{Entered}
use Rattle.term_unfold.proofs.Tied.{IsTied-few}
use Rattle.term_unfold.proofs.path.Path.top.Goals as goal

pub returns-clause-few : goal.returns-clause-few
returns-clause-few c =
    let inside = c.self.inside in
    subst (λ (o : Entered). length o.entries ≤ o.cells) c.self.view_is (IsTied-few inside.marks.items inside.stack.cap (reverse inside.stack.items) c.self.invariant)

pub returns-clause-reserved : goal.returns-clause-reserved
returns-clause-reserved c = subst (λ (o : Entered). o.reserved ≡ o.cells + 1) c.self.view_is c.self.invariant.room
