use Rattle.std.proofs.Common.{arith}
use Rattle.cell_graphs.specs.Laws.Places.{place-within}
use Rattle.heap_weights.proofs.Taking.{places-next, places-end}
use Rattle.heap_weights.proofs.walking.look_at.Goals as goal

pub add_lead-requires : goal.add_lead-requires
add_lead-requires g c =
    rw c.loop-place.invariant.size
    (rw c.requires.cells (place-within (g.G.CellGraph.graph c.args.graph.now) c.args.cell c.loop-place.place c.lead_of.result c.requires.within c.lead_of.ensures))

pub loop-place-preserved : goal.loop-place-preserved
loop-place-preserved g c =
    places-next (g.G.CellGraph.graph c.args.graph.now) c.args.cell c.loop-place.place c.lead_of.result c.args.labels.now c.loop-place.labels c.add_lead.new.labels
    c.lead_of.ensures c.loop-place.invariant c.add_lead.ensures

pub returns : goal.returns
returns g c =
    places-end (g.G.CellGraph.graph c.args.graph.now) c.args.cell c.loop-place.place c.args.labels.now c.loop-place.labels (omega arith) c.loop-place.invariant
