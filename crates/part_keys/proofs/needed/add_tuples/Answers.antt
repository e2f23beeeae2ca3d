use Rattle.std.proofs.Common.{◌≤◌, ◌++◌, length, ◌∙◌, ap, arith}
use Rattle.std.proofs.lemmas.List.{take_all}
use Rattle.std.proofs.lemmas.Option.{slice_get-get_or}
use Rattle.part_keys.specs.Inner.KeyTexts.{all_key_tuples, key_tuples}
use Rattle.part_keys.proofs.PartFacts.{lists-next}
use Rattle.part_keys.proofs.needed.add_tuples.Goals as goal

pub loop-key-preserved : goal.loop-key-preserved
loop-key-preserved c =
    lists-next (key_tuples c.args.skeleton.now) c.args.keys.now c.loop-key.key-index _ c.args.cells.now.items c.loop-key.cells.items c.add_tuple.new.cells.items
    (slice_get-get_or c.args.keys.now c.loop-key.key-index _ c.loop-key-test.true) c.loop-key.invariant c.in_ok-add_tuple.ensures

pub returns : goal.returns
returns c =
    let all : length c.args.keys.now ≤ c.loop-key.key-index = omega (arith, c.loop-key-test.false) in
    c.loop-key.invariant ∙ ap (λ l. c.args.cells.now.items ++ all_key_tuples c.args.skeleton.now l) (take_all c.loop-key.key-index c.args.keys.now all)
