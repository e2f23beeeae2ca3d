use Rattle.std.proofs.Common.{◌+◌, refl, ◌∙◌, arith}
use Rattle.cell_graphs.specs.Frontiers.{is_on}
use Rattle.cell_ways.proofs.Deepening.{searched-all, searched-roots, searched-then}
use Rattle.cell_ways.proofs.search.search_depths.Goals as goal

pub loop-depth-init : goal.loop-depth-init
loop-depth-init g c =
    searched-roots (g.G.CellGraph.graph c.args.graph.now) (λ n. is_on n c.args.roots.now) c.in_ok-search.search c.add_all.new.search c.args.roots.now (λ n. refl)
    (c.in_ok-search.ensures.size ∙ c.cells.ensures.value) c.in_ok-search.ensures.none c.in_ok-search.ensures.queue c.in_ok-add_all.ensures

pub loop-depth-preserved : goal.loop-depth-preserved
loop-depth-preserved g c =
    searched-then (g.G.CellGraph.graph c.args.graph.now) (λ n. is_on n c.args.roots.now) c.loop-depth.search c.loop-depth.from c.loop-depth.depth c.loop-depth.invariant
    c.go_deeper.new.search (c.loop-depth.depth + 1) c.len-upto.result (omega arith) (omega (arith, c.len-upto.ensures, c.loop-depth.search.queue.ok.0)) c.in_ok-go_deeper.ensures

pub returns : goal.returns
returns g c =
    searched-all (g.G.CellGraph.graph c.args.graph.now) (λ n. is_on n c.args.roots.now) c.loop-depth.search c.loop-depth.from c.loop-depth.depth c.loop-depth.invariant (omega arith)
