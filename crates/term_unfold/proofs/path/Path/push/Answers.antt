use Rattle.std.proofs.Common.{true, ◌∷◌, ap, ◌∙◌, subst, sym, arith}
use Rattle.std.specs.Prelude.{reverse}
use Rattle.std.proofs.lemmas.List.{length-set}
use Rattle.heap_cells.specs.Targets.{number}
use Rattle.term_unfold.specs.declared.path.Entry.{Entry}
use Rattle.term_unfold.specs.Inner.Entries.{Entered, numbers_of, IsLine}
use Rattle.term_unfold.proofs.Tied.{Entered-same, IsTied-pushed, IsTied-room, reverse-push}
use Rattle.term_unfold.proofs.path.Path.push.Goals as goal

pub push_reserved-requires : goal.push_reserved-requires
push_reserved-requires c =
    let inside = c.self.inside in
    let fits = IsTied-room inside.marks.items inside.stack.cap inside.stack.items c.self.invariant in
    omega (arith, fits, inside.stack.ok.0)

pub invariant_of-self : goal.invariant_of-self
invariant_of-self c =
    let inside = c.self.inside in
    let after = c.push_reserved.new.self in
    let entry : Entry = record { cell = c.args.cell; next = 0; kind = c.args.kind; came = c.args.came } in
    IsTied-pushed inside.marks.items inside.stack.cap after.cap c.number.result (reverse inside.stack.items) (reverse after.items) entry c.number.ensures
    c.self.invariant (omega (arith, c.push_reserved.ensures.capacity))
    (subst (λ (o : Entered). IsLine o.cells (number c.args.cell ∷ numbers_of o.entries)) (sym c.self.view_is) c.requires)
    (ap reverse c.push_reserved.ensures.items ∙ reverse-push inside.stack.items _)

pub returns : goal.returns
returns c =
    let inside = c.self.inside in
    let entry : Entry = record { cell = c.args.cell; next = 0; kind = c.args.kind; came = c.args.came } in
    Entered-same _ _ _ _ _ _ (length-set inside.marks.items c.number.result true ∙ ap (λ (o : Entered). o.cells) c.self.view_is)
    (c.push_reserved.ensures.capacity ∙ ap (λ (o : Entered). o.reserved) c.self.view_is)
    (ap reverse c.push_reserved.ensures.items ∙ reverse-push inside.stack.items entry ∙ ap (λ (o : Entered). entry ∷ o.entries) c.self.view_is)
