use Rattle.std.proofs.Common.{length, refl, ap, sym, arith}
use Rattle.std.specs.List.{list_any}
use Rattle.std.proofs.lemmas.List.{take_all}
use Rattle.cell_graphs.specs.Graphs.{places_at}
use Rattle.cell_graphs.specs.Rounds.{is_to}
use Rattle.cell_graphs.specs.Laws.Places.{place-within}
use Rattle.cell_ways.proofs.Gathering.{gathers-none, gathers-same, gathers-then}
use Rattle.cell_ways.proofs.Giving.{any-more}
use Rattle.cell_ways.proofs.search.push_leads.Goals as goal

pub loop-place-init : goal.loop-place-init
loop-place-init g c = gathers-none (length (g.G.CellGraph.graph c.args.graph.now)) c.args.leads.now.items _ (λ n. refl)

pub loop-place-preserved : goal.loop-place-preserved
loop-place-preserved g c =
    let graph = g.G.CellGraph.graph c.args.graph.now in
    gathers-then (length graph) c.args.leads.now.items c.loop-place.leads.items c.push_lead.new.leads.items _ _ _ c.loop-place.invariant
    (c.in_ok-push_lead.ensures (length graph) (place-within graph c.args.cell c.loop-place.place c.lead.result c.requires.within c.lead.ensures))
    (λ n. any-more (is_to n) (places_at graph c.args.cell) c.loop-place.place c.lead.result c.lead.ensures)

pub returns : goal.returns
returns g c =
    let graph = g.G.CellGraph.graph c.args.graph.now in
    gathers-same (length graph) c.args.leads.now.items c.loop-place.leads.items _ _ c.loop-place.invariant
    (λ n. ap (list_any (is_to n)) (sym (take_all c.loop-place.place (places_at graph c.args.cell) (omega arith))))
