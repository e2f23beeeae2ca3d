use Rattle.std.proofs.Common.{ap, ◌∙◌, arith}
use Rattle.std.specs.Prelude.{reverse}
use Rattle.term_unfold.proofs.Tied.{IsTied-popped, reverse-push}
use Rattle.term_unfold.proofs.path.Path.pop.Goals as goal

pub invariant_of-self : goal.invariant_of-self
invariant_of-self c =
    let inside = c.self.inside in
    let after = c.pop.new.self in
    IsTied-popped inside.marks.items inside.stack.cap after.cap c.number.result c.in-Some.entry (reverse inside.stack.items) (reverse after.items) c.number.ensures c.self.invariant
    (omega (arith, c.in-Some.ensures.capacity)) (ap reverse c.in-Some.ensures.items ∙ reverse-push after.items c.in-Some.entry)
