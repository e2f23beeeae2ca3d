use Rattle.std.proofs.Common.{◌≡◌, ◌<◌, length, refl, ap, ◌∙◌, arith}
use Rattle.std.specs.Prelude.{reverse}
use Rattle.std.proofs.lemmas.List.{length-reverse}
use Rattle.term_unfold.specs.Inner.Entries.{Entered, altered, told_of}
use Rattle.term_unfold.proofs.Tied.{Entered-same, IsTied-altered, altered-last}
use Rattle.term_unfold.proofs.path.Path.tell.Goals as goal

pub invariant_of-self : goal.invariant_of-self
invariant_of-self c =
    let inside = c.self.inside in
    let entries : reverse inside.stack.items ≡ c.args.self.now.entries = ap (λ (o : Entered). o.entries) c.self.view_is in
    let some : 0 < length (reverse inside.stack.items) = omega (arith, length-reverse inside.stack.items, inside.stack.ok.0, c.len-count.ensures, c.if-count-eq0.false) in
    IsTied-altered inside.marks.items inside.stack.cap (told_of c.args.came) (reverse inside.stack.items) _ (λ e. refl) c.self.invariant
    (altered-last (told_of c.args.came) inside.stack.items (reverse inside.stack.items) c.index-entry.result.now c.len-count.result refl some (c.len-count.ensures ∙ inside.stack.ok.0) c.index-entry.ensures)

pub returns : goal.returns
returns c =
    let inside = c.self.inside in
    let entries : reverse inside.stack.items ≡ c.args.self.now.entries = ap (λ (o : Entered). o.entries) c.self.view_is in
    let some : 0 < length (reverse inside.stack.items) = omega (arith, length-reverse inside.stack.items, inside.stack.ok.0, c.len-count.ensures, c.if-count-eq0.false) in
    Entered-same _ _ _ _ _ _ (ap (λ (o : Entered). o.cells) c.self.view_is) (ap (λ (o : Entered). o.reserved) c.self.view_is)
    (altered-last (told_of c.args.came) inside.stack.items (reverse inside.stack.items) c.index-entry.result.now c.len-count.result refl some (c.len-count.ensures ∙ inside.stack.ok.0) c.index-entry.ensures
    ∙ ap (altered (told_of c.args.came)) entries)
