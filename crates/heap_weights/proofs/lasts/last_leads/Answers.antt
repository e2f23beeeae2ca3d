use Rattle.heap_weights.proofs.LastPlaces.{first-more, first-none}
use Rattle.heap_weights.proofs.lasts.last_leads.Goals as goal

pub loop-cell-init : goal.loop-cell-init
loop-cell-init g c = first-none (g.G.CellGraph.graph c.args.graph.now) c.in_ok-lasts.lasts.items c.in_ok-lasts.ensures.items

pub loop-cell-preserved : goal.loop-cell-preserved
loop-cell-preserved g c =
    first-more (g.G.CellGraph.graph c.args.graph.now) c.loop-cell.cell c.last_lead.result c.loop-cell.lasts.items c.push.new.self.items c.loop-cell.invariant c.last_lead.ensures c.in_ok-push.ensures.items
