use Rattle.std.proofs.Common.{◌≡◌, ◌+◌, get_or, Some, sym, subst, ap, ◌∙◌, arith}
use Rattle.std.specs.Prelude.{reverse, OnOk}
use Rattle.std.proofs.lemmas.Option.{slice_get-get_or}
use Rattle.heap_ways.proofs.StepFacts.{step-pushed}
use Rattle.heap_ways.proofs.steps.push_next.Goals as goal

pub returns : goal.returns
returns c =
    let way = c.args.way.now in
    let s = c.args.skeleton.now in
    let found = c.in-Some.ensures.lookup in
    let next = c.in-Some.next.now in
    subst (λ l. OnOk c.push_cell.result (reverse c.push_cell.new.steps.items ≡ l))
    (step-pushed s.kinds s.leads way c.args.i (get_or way c.args.i 0) next c.kind_before-before.result c.kind-here.result c.kind.result c.place_to-place.result c.follows-is_tail.result _
    (slice_get-get_or way c.args.i 0 c.requires.place)
    (slice_get-get_or way (c.args.i + 1) next (omega (arith, found)) ∙ ap Some (sym found.1))
    c.kind_before-before.ensures c.kind-here.ensures c.kind.ensures c.place_to-place.ensures c.follows-is_tail.ensures c.requires.steps)
    c.push_cell.ensures
