use Rattle.std.proofs.Common.{get_or, length, refl}
use Rattle.std.proofs.lemmas.Option.{slice_get-get_or}
use Rattle.cell_graphs.specs.Rounds.{leads_to}
use Rattle.cell_ways.proofs.Gathering.{gathers-none, gathers-then}
use Rattle.cell_ways.proofs.Giving.{any-more}
use Rattle.cell_ways.proofs.search.push_all_leads.Goals as goal

pub loop-cell-init : goal.loop-cell-init
loop-cell-init g c = gathers-none (length (g.G.CellGraph.graph c.args.graph.now)) c.args.leads.now.items _ (λ n. refl)

pub loop-cell-preserved : goal.loop-cell-preserved
loop-cell-preserved g c =
    let graph = g.G.CellGraph.graph c.args.graph.now in
    let cells = c.args.cells.now in
    let i = c.loop-cell.cell-index in
    gathers-then (length graph) c.args.leads.now.items c.loop-cell.leads.items c.push_leads.new.leads.items _ _ _ c.loop-cell.invariant c.in_ok-push_leads.ensures
    (λ n. any-more (λ m. leads_to graph m n) cells i (get_or cells i 0) (slice_get-get_or cells i 0 c.loop-cell-test.true))
