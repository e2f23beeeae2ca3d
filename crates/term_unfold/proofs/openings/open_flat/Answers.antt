use Rattle.std.proofs.Common.{◌∷◌, refl, ◌∙◌, ap, subst, arith}
use Rattle.heap_cells.specs.HeapMap.{elements_at}
use Rattle.heap_cells.specs.Targets.{number}
use Rattle.cell_records.specs.declared.cells.Slot.TheVariants as slot
use Rattle.cell_records.specs.declared.cells.Why.TheVariants.{Malformed}
use Rattle.term_unfold.proofs.Targets.{address-is, slot-leads, leads-missing}
use Rattle.term_unfold.specs.Maps.{element_at}
use Rattle.term_unfold.specs.Inner.Entries.{numbers_of, IsLine}
use Rattle.term_unfold.specs.Rules.{bad}
use Rattle.term_unfold.proofs.Opens.{off-missing_below, term-at, flat-empty, flat-plain, flat-missing}
use Rattle.term_unfold.proofs.openings.open_flat.Goals as goal

pub returns-then-kids-lt2 : goal.returns-then-kids-lt2
returns-then-kids-lt2 c =
    let off = term-at _ _ _ c.requires.off c.requires.serves.bounded.distinct c.requires.cell in
    record {
      found_is = record { cell = c.requires.cell; fits = refl; opens = off ∙ flat-empty _ _ _ _ c.requires.flat (omega (arith, c.if-kids-lt2.true, c.kids.ensures)) };
      enters = c.requires.line;
    }

pub returns-in-Imm : goal.returns-in-Imm
returns-in-Imm c =
    let heap = c.args.heap.now.cells in
    let n = number c.args.ix in
    let off = term-at heap _ n c.requires.off c.requires.serves.bounded.distinct c.requires.cell in
    let leads = slot-leads heap c.slots.result.now (elements_at heap n) 0 (slot.Imm c.in-Imm.field-0) c.slots.ensures.targets c.in-Imm.is in
    record {
      found_is = off ∙ flat-plain heap _ _ _ c.requires.flat (omega (arith, c.if-kids-lt2.false, c.kids.ensures)) leads ∙ ap (λ x. bad x Malformed) (address-is heap n c.addr.result c.addr.ensures);
      enters = tt;
    }

pub returns-in-Gone : goal.returns-in-Gone
returns-in-Gone c =
    let heap = c.args.heap.now.cells in
    let n = number c.args.ix in
    let off = term-at heap _ n c.requires.off c.requires.serves.bounded.distinct c.requires.cell in
    let b = c.in-Gone.addr in
    let gone = leads-missing heap b (element_at heap n 0) (slot-leads heap c.slots.result.now (elements_at heap n) 0 (slot.Gone b) c.slots.ensures.targets c.in-Gone.is) in
    let line = subst (λ m. IsLine m (n ∷ numbers_of c.args.path.now.entries)) c.requires.serves.size c.requires.line in
    record {
      found_is = off ∙ flat-missing heap _ _ b _ c.requires.flat (omega (arith, c.if-kids-lt2.false, c.kids.ensures)) gone.0 (off-missing_below heap b n _ gone.1 line) gone.1;
      enters = tt;
    }
