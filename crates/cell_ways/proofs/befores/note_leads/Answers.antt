use Rattle.std.proofs.Common.{ℕ, ◌<◌, ◌&&◌, take, ap, sym, subst, ◌∙◌, arith}
use Rattle.std.specs.Prelude.{IfSome}
use Rattle.std.specs.List.{list_any}
use Rattle.std.proofs.lemmas.List.{take_all}
use Rattle.cell_graphs.specs.Graphs.{places_at}
use Rattle.cell_graphs.specs.Rounds.{is_to}
use Rattle.cell_graphs.specs.Laws.Places.{place-within}
use Rattle.cell_ways.specs.Inner.Search.{is_before}
use Rattle.cell_ways.proofs.Giving.{and-false, and-more, any-more, gives-none, gives-same, gives-then}
use Rattle.cell_ways.proofs.befores.note_leads.Goals as goal

pub note_lead-requires-clause-lead : goal.note_lead-requires-clause-lead
note_lead-requires-clause-lead g c =
    subst (λ size. IfSome c.lead.result (λ n. n < size)) (sym (c.loop-place.invariant.size ∙ c.requires.cells))
    (place-within (g.G.CellGraph.graph c.args.graph.now) c.args.cell c.loop-place.place c.lead.result c.requires.within c.lead.ensures)

pub loop-place-init : goal.loop-place-init
loop-place-init g c = gives-none c.args.befores.now c.args.cell _ (λ n. and-false (is_before c.args.depths.now c.args.cell n))

pub loop-place-preserved : goal.loop-place-preserved
loop-place-preserved g c =
    let places = places_at (g.G.CellGraph.graph c.args.graph.now) c.args.cell in
    let before : ℕ → _ = is_before c.args.depths.now c.args.cell in
    gives-then c.args.befores.now c.loop-place.befores c.note_lead.new.befores c.args.cell _ _ _ c.loop-place.invariant c.note_lead.ensures
    (λ n. and-more (before n) (list_any (is_to n) (take c.loop-place.place places)) (is_to n c.lead.result) _ (any-more (is_to n) places c.loop-place.place c.lead.result c.lead.ensures))

pub returns : goal.returns
returns g c =
    let places = places_at (g.G.CellGraph.graph c.args.graph.now) c.args.cell in
    gives-same c.args.befores.now c.loop-place.befores c.args.cell _ _ c.loop-place.invariant
    (λ n. ap (λ ps. is_before c.args.depths.now c.args.cell n && list_any (is_to n) ps) (sym (take_all c.loop-place.place places (omega arith))))
