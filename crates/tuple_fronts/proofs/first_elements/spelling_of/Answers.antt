use Rattle.std.proofs.Common.{arith, length, ◌<◌, ◌^◌, rules}
use Rattle.term_forms.specs.SeenPlaces.{placed}
use Rattle.tuple_fronts.proofs.ReadFacts.{stands-read, stands-within}
use Rattle.tuple_fronts.proofs.first_elements.spelling_of.Goals as goal

pub overflow_add-result : goal.overflow_add-result
overflow_add-result c =
    let within = stands-within c.args.text.now (placed c.args.found.now) c.front_is_longest.ensures.found c.requires in
    let few : length c.args.text.now < 2 ^ 63 = search rules in
    omega (arith, within, few)

pub slice_bounds-result-end : goal.slice_bounds-result-end
slice_bounds-result-end c =
    let within = stands-within c.args.text.now (placed c.args.found.now) c.front_is_longest.ensures.found c.requires in
    search rules

pub returns : goal.returns
returns c = stands-read c.args.text.now (placed c.args.found.now) c.front_is_longest.ensures.found c.whole_is_read.ensures.found c.requires
