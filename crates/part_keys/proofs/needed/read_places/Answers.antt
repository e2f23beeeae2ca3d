use Rattle.std.proofs.Common.{◌≤◌, ◌++◌, length, map, ◌∙◌, ap, arith}
use Rattle.std.proofs.lemmas.List.{take_all}
use Rattle.part_keys.specs.Inner.PartTexts.{value_place}
use Rattle.part_keys.proofs.needed.read_places.Goals as goal

pub returns : goal.returns
returns c =
    let all : length c.args.parts.now ≤ c.loop-part.part-index = omega (arith, c.loop-part-test.false) in
    c.loop-part.invariant ∙ ap (λ l. c.args.keys.now ++ map value_place l) (take_all c.loop-part.part-index c.args.parts.now all)
