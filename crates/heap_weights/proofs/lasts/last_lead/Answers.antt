use Rattle.std.proofs.Common.{◌-◌, length, sym, arith}
use Rattle.cell_graphs.specs.Laws.Places.{place-within}
use Rattle.heap_weights.proofs.LastPlaces.{last-some, lead-below}
use Rattle.heap_weights.proofs.lasts.last_lead.Goals as goal

pub mark_of-requires : goal.mark_of-requires
mark_of-requires g c =
    let graph = g.G.CellGraph.graph c.args.graph.now in
    lead-below c.lead.result (length graph) c.requires.few (place-within graph c.args.cell (c.places-places.result - 1) c.lead.result c.requires.within c.lead.ensures)

pub returns : goal.returns
returns g c =
    last-some (g.G.CellGraph.graph c.args.graph.now) c.args.cell c.mark_of.result (c.places-places.result - 1) c.places-places.result c.lead.result
    (sym c.places-places.ensures) (omega arith) c.lead.ensures c.mark_of.ensures
