use Rattle.std.proofs.Common.{◌≤◌, ◌++◌, length, ◌∙◌, ap, arith}
use Rattle.std.proofs.lemmas.List.{take_all}
use Rattle.std.proofs.lemmas.Option.{slice_get-get_or}
use Rattle.part_keys.specs.Inner.PartTexts.{all_part_tuples, part_tuples}
use Rattle.part_keys.proofs.PartFacts.{lists-next}
use Rattle.part_keys.proofs.needed.add_parts.Goals as goal

pub loop-part-preserved : goal.loop-part-preserved
loop-part-preserved c =
    lists-next (part_tuples c.args.skeleton.now) c.args.parts.now c.loop-part.part-index _ c.args.cells.now.items c.loop-part.cells.items c.add_part.new.cells.items
    (slice_get-get_or c.args.parts.now c.loop-part.part-index _ c.loop-part-test.true) c.loop-part.invariant c.in_ok-add_part.ensures

pub returns : goal.returns
returns c =
    let all : length c.args.parts.now ≤ c.loop-part.part-index = omega (arith, c.loop-part-test.false) in
    c.loop-part.invariant ∙ ap (λ l. c.args.cells.now.items ++ all_part_tuples c.args.skeleton.now l) (take_all c.loop-part.part-index c.args.parts.now all)
