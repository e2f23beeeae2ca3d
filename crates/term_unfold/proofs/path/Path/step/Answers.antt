use Rattle.std.proofs.Common.{◌≡◌, ◌<◌, List, length, refl, ap, subst, sym, ◌∙◌}
use Rattle.std.specs.Prelude.{reverse}
use Rattle.term_unfold.specs.declared.path.Entry.{Entry}
use Rattle.term_unfold.specs.Inner.Entries.{Entered, altered, next_of}
use Rattle.term_unfold.proofs.Tied.{Entered-same, IsTied-altered, altered-last}
use Rattle.term_unfold.proofs.path.Path.step.Goals as goal

pub invariant_of-self : goal.invariant_of-self
invariant_of-self c =
    let inside = c.self.inside in
    let entries : reverse inside.stack.items ≡ c.args.self.now.entries = ap (λ (o : Entered). o.entries) c.self.view_is in
    let some : 0 < length (reverse inside.stack.items) = subst (λ (es : List Entry). 0 < length es) (sym entries) c.requires.entry in
    IsTied-altered inside.marks.items inside.stack.cap (next_of c.args.came) (reverse inside.stack.items) _ (λ e. refl) c.self.invariant
    (altered-last (next_of c.args.came) inside.stack.items (reverse inside.stack.items) c.index-entry.result.now c.len-last.result refl some (c.len-last.ensures ∙ inside.stack.ok.0) c.index-entry.ensures)

pub returns : goal.returns
returns c =
    let inside = c.self.inside in
    let entries : reverse inside.stack.items ≡ c.args.self.now.entries = ap (λ (o : Entered). o.entries) c.self.view_is in
    let some : 0 < length (reverse inside.stack.items) = subst (λ (es : List Entry). 0 < length es) (sym entries) c.requires.entry in
    Entered-same _ _ _ _ _ _ (ap (λ (o : Entered). o.cells) c.self.view_is) (ap (λ (o : Entered). o.reserved) c.self.view_is)
    (altered-last (next_of c.args.came) inside.stack.items (reverse inside.stack.items) c.index-entry.result.now c.len-last.result refl some (c.len-last.ensures ∙ inside.stack.ok.0) c.index-entry.ensures
    ∙ ap (altered (next_of c.args.came)) entries)
