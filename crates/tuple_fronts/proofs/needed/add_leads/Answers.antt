use Rattle.std.proofs.Common.{◌≡◌, ◌++◌, length, min, ◌∙◌, ap, arith}
use Rattle.std.specs.Prelude.{flat_map}
use Rattle.cell_graphs.specs.Graphs.{places_at}
use Rattle.cell_graphs.specs.Laws.Places.{place-within}
use Rattle.tuple_fronts.specs.Tuples.{lead_tuple}
use Rattle.tuple_fronts.proofs.NeededFacts.{flat-next, take-few}
use Rattle.tuple_fronts.proofs.needed.add_leads.Goals as goal

pub add_lead-requires : goal.add_lead-requires
add_lead-requires c = place-within c.args.skeleton.now.leads c.args.cell c.loop-place.place c.lead.result c.requires.within c.lead.ensures

pub loop-place-preserved : goal.loop-place-preserved
loop-place-preserved c =
    flat-next (lead_tuple c.args.skeleton.now) (places_at c.args.skeleton.now.leads c.args.cell) c.loop-place.place c.lead.result c.args.cells.now.items c.loop-place.cells.items c.add_lead.new.cells.items
    c.lead.ensures c.loop-place.invariant c.in_ok-add_lead.ensures

pub returns : goal.returns
returns c =
    let places = places_at c.args.skeleton.now.leads c.args.cell in
    let end : c.loop-place.place ≡ min (length places) 8 = omega arith in
    c.loop-place.invariant ∙ ap (λ l. c.args.cells.now.items ++ flat_map (lead_tuple c.args.skeleton.now) l) (take-few places c.loop-place.place end)
