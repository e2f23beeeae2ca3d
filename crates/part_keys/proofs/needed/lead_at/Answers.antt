use Rattle.std.proofs.Common.{◌≤◌, length, sym, ap, arith}
use Rattle.std.specs.Option.{option_and_then}
use Rattle.std.proofs.lemmas.Option.{slice_get_past}
use Rattle.cell_graphs.specs.Graphs.{places_at}
use Rattle.cell_graphs.specs.Laws.Places.{place-within}
use Rattle.part_keys.proofs.needed.lead_at.Goals as goal

pub returns-then-place-places-clause-within : goal.returns-then-place-places-clause-within
returns-then-place-places-clause-within c = λ within. place-within c.args.skeleton.now.leads c.args.cell c.args.place c.lead.result within c.lead.ensures

pub returns-else-place-places-clause-value : goal.returns-else-place-places-clause-value
returns-else-place-places-clause-value c =
    let places = places_at c.args.skeleton.now.leads c.args.cell in
    let past : length places ≤ c.args.place = omega (arith, c.places.ensures, c.if-place-places.false) in
    sym (ap (option_and_then (λ lead. lead)) (slice_get_past places c.args.place past))
