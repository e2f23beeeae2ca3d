use Rattle.std.proofs.Common.{◌≡◌, ◌<◌, arith, length, ap, get_or, sym, ◌∙◌, subst}
use Rattle.std.proofs.lemmas.List.{length-map, get_or_default}
use Rattle.heap_cells.specs.Targets.{slot_target, IsWithin}
use Rattle.term_unfold.proofs.Targets.{no_slot}
use Rattle.term_unfold.proofs.ChildFacts.{term-child}
use Rattle.term_unfold.proofs.children.term_at.Goals as goal

pub returns : goal.returns
returns c =
    let found = c.in_ok-slot.ensures.lookup in
    let slots = c.slots.result.now in
    let slot = c.in_ok-slot.slot in
    let same = simp length-map at (ap length c.slots.ensures.targets) in
    let inside : c.args.place < length slots = omega (arith, found) in
    let is : get_or slots c.args.place no_slot ≡ slot.now = get_or_default slots c.args.place no_slot slot.now inside ∙ sym found.1 in
    term-child c.args.heap.now c.args.ix c.args.place slots slot c.requires.bounded c.requires.cell (omega (arith, inside, same)) c.slots.ensures.targets is
    (subst (λ s. IsWithin (length c.args.heap.now.cells) (slot_target s)) is (c.slots.ensures.within c.args.place no_slot inside))
