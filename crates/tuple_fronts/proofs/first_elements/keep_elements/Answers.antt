use Rattle.std.proofs.Common.{refl, arith, ◌+◌}
use Rattle.term_forms.specs.SeenPlaces.{placed}
use Rattle.tuple_fronts.proofs.ReadFacts.{begun-front, begun-more, begun-none}
use Rattle.tuple_fronts.proofs.first_elements.keep_elements.Goals as goal

pub loop-place-init : goal.loop-place-init
loop-place-init c = begun-none c.args.elements c.args.kept.now

pub loop-place-preserved : goal.loop-place-preserved
loop-place-preserved c =
    let place = c.loop-place._place in
    begun-more c.args.elements c.loop-place.elements c.next_of.new.elements (placed c.in-Some.found) c.args.kept.now c.loop-place.kept c.push.new.self place (place + 1) c.spelling_of.result.now
    c.loop-place.invariant c.in-Some.ensures.first c.spelling_of.ensures c.in_ok-push.ensures refl

pub returns : goal.returns
returns c =
    let end = c.loop-place.auto in
    begun-front c.args.elements c.loop-place.elements c.args.kept.now c.loop-place.kept c.loop-place._place c.loop-place.invariant (omega (arith, c.loop-place-test.false, end))
