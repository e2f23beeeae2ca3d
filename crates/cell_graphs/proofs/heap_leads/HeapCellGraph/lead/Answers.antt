use Rattle.std.proofs.Common.{Some, sym, ◌∙◌, ap, arith}
use Rattle.std.proofs.lemmas.Option.{slice_get-get_or, slice_get_past}
use Rattle.cell_graphs.specs.Laws.HeapGraphs.{lead-slot, lead-whole}
use Rattle.cell_graphs.proofs.heap_leads.HeapCellGraph.lead.Goals as goal

pub returns-in-Some : goal.returns-in-Some
returns-in-Some c =
    let slots = c.slots.result.now in
    let slot = c.in-Some.slot.now in
    let found = c.in-Some.ensures.lookup in
    lead-slot c.args.self.now.cells c.args.cell slots c.args.place (rw (← c.cell-ix.ensures) c.slots.ensures.targets) slot
    (slice_get-get_or slots c.args.place slot (omega (arith, found)) ∙ ap Some (sym found.1))
    ∙ ap Some (sym c.cell_in.ensures)

pub returns-in-None : goal.returns-in-None
returns-in-None c =
    let slots = c.slots.result.now in
    lead-whole c.args.self.now.cells c.args.cell slots c.args.place (rw (← c.cell-ix.ensures) c.slots.ensures.targets) c.whole_of.result
    (slice_get_past slots c.args.place (omega (arith, c.in-None.ensures.lookup))) c.requires.place
    (rw (← c.cell-ix.ensures) c.whole_of.ensures)
