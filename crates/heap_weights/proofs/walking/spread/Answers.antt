use Rattle.std.proofs.Common.{length, ap, sym, ◌∙◌}
use Rattle.heap_weights.proofs.Going.{goes-first, goes-next, reached-last, settled-last, walks-end}
use Rattle.heap_weights.proofs.walking.spread.Goals as goal

pub loop-cell-init : goal.loop-cell-init
loop-cell-init g c = goes-first (g.G.CellGraph.graph c.args.graph.now) c.args.labels.now c.requires.cells c.requires.looked

pub loop-cell-preserved : goal.loop-cell-preserved
loop-cell-preserved g c =
    goes-next (g.G.CellGraph.graph c.args.graph.now) c.args.labels.now c.loop-cell.labels c.pop.new.self c.look_at.new.labels c.in-Some.cell
    c.loop-cell.invariant c.in-Some.ensures.holders c.in-Some.ensures.part c.in-Some.ensures.reserved c.in-Some.ensures.popped c.in-Some.ensures.stopped c.look_at.ensures

pub returns-clause-walks : goal.returns-clause-walks
returns-clause-walks g c =
    walks-end (g.G.CellGraph.graph c.args.graph.now) c.args.labels.now c.loop-cell.labels c.pop.new.self
    c.loop-cell.invariant c.in_default.ensures.holders c.in_default.ensures.part c.in_default.ensures.reserved

pub returns-clause-settled : goal.returns-clause-settled
returns-clause-settled g c =
    settled-last (g.G.CellGraph.graph c.args.graph.now) c.args.labels.now c.loop-cell.labels c.pop.new.self
    c.loop-cell.invariant c.in_default.ensures.holders c.in_default.ensures.part c.requires.room c.in_default.ensures.popped c.in_default.ensures.reserved c.in_default.ensures.empty

pub returns-clause-reached : goal.returns-clause-reached
returns-clause-reached g c =
    reached-last (g.G.CellGraph.graph c.args.graph.now) c.args.labels.now c.loop-cell.labels c.pop.new.self
    c.loop-cell.invariant c.in_default.ensures.holders c.in_default.ensures.part c.in_default.ensures.popped

pub returns-clause-size : goal.returns-clause-size
returns-clause-size g c = ap length c.in_default.ensures.holders ∙ c.loop-cell.invariant.size ∙ sym c.requires.cells
