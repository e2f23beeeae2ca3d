use Rattle.std.proofs.Common.{◌∙◌, ap}
use Rattle.heap_cells.specs.HeapMap.{elements_at}
use Rattle.heap_cells.specs.Targets.{number}
use Rattle.cell_records.specs.declared.cells.Slot.TheVariants as slot
use Rattle.cell_records.specs.declared.cells.Why.TheVariants.{Malformed}
use Rattle.term_unfold.proofs.Targets.{address-is, slot-leads, leads-missing}
use Rattle.term_unfold.specs.Maps.{element_at}
use Rattle.term_unfold.specs.Rules.{bad}
use Rattle.term_unfold.proofs.Opens.{item-plain, item-none}
use Rattle.term_unfold.proofs.openings.open_item.Goals as goal

pub open_member-requires-clause-leads : goal.open_member-requires-clause-leads
open_member-requires-clause-leads c =
    let heap = c.args.heap.now.cells in
    slot-leads heap c.slots.result.now (elements_at heap (number c.args.parent)) c.args.place (slot.Cell c.in-Cell.ix) c.slots.ensures.targets c.in-Cell.is

pub returns-in-Imm : goal.returns-in-Imm
returns-in-Imm c =
    let heap = c.args.heap.now.cells in
    let p = number c.args.parent in
    let leads = slot-leads heap c.slots.result.now (elements_at heap p) c.args.place (slot.Imm c.in-Imm.field-0) c.slots.ensures.targets c.in-Imm.is in
    record {
      found_is = item-plain heap _ _ (element_at heap p c.args.place) leads ∙ ap (λ x. bad x Malformed) (address-is heap p c.addr.result c.addr.ensures);
      enters = tt;
    }

pub returns-in-Gone : goal.returns-in-Gone
returns-in-Gone c =
    let heap = c.args.heap.now.cells in
    let p = number c.args.parent in
    let e = element_at heap p c.args.place in
    let b = c.in-Gone.addr in
    let gone = leads-missing heap b e (slot-leads heap c.slots.result.now (elements_at heap p) c.args.place (slot.Gone b) c.slots.ensures.targets c.in-Gone.is) in
    item-none _ _ b c.missing.ensures.found c.requires.serves.size c.missing.ensures.line gone.1 _ e gone.0
