use Rattle.std.proofs.Common.{ap, sym, subst, ◌<◌, ◌∙◌, refl, arith}
use Rattle.std.specs.Prelude.{IfSome}
use Rattle.std.specs.List.{list_any}
use Rattle.std.proofs.lemmas.List.{take_all}
use Rattle.cell_graphs.specs.Graphs.{places_at}
use Rattle.cell_graphs.specs.Rounds.{is_to}
use Rattle.cell_graphs.specs.Laws.Places.{place-within}
use Rattle.cell_ways.proofs.Giving.{any-more}
use Rattle.cell_ways.proofs.Sweeping.{lowers-none, lowers-same, lowers-then}
use Rattle.cell_ways.proofs.sweeps.Sweep.lower_leads.Goals as goal

pub lower_lead-requires-clause-lead : goal.lower_lead-requires-clause-lead
lower_lead-requires-clause-lead g c =
    subst (λ size. IfSome c.lead.result (λ n. n < size)) (sym (c.loop-place.invariant.size ∙ c.requires.cells))
    (place-within (g.G.CellGraph.graph c.args.graph.now) c.args.cell c.loop-place.place c.lead.result c.requires.within c.lead.ensures)

pub loop-place-init : goal.loop-place-init
loop-place-init g c = lowers-none c.args.self.now c.args.depth _ (λ n. refl)

pub loop-place-preserved : goal.loop-place-preserved
loop-place-preserved g c =
    lowers-then c.args.self.now c.loop-place.self c.lower_lead.new.self c.args.depth _ _ _ c.loop-place.invariant c.lower_lead.ensures
    (λ n. any-more (is_to n) (places_at (g.G.CellGraph.graph c.args.graph.now) c.args.cell) c.loop-place.place c.lead.result c.lead.ensures)

pub returns : goal.returns
returns g c =
    let places = places_at (g.G.CellGraph.graph c.args.graph.now) c.args.cell in
    lowers-same c.args.self.now c.loop-place.self c.args.depth _ _ c.loop-place.invariant
    (λ n. ap (list_any (is_to n)) (sym (take_all c.loop-place.place places (omega arith))))
