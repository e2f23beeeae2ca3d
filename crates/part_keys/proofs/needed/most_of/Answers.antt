use Rattle.std.proofs.Common.{◌≤◌, length, subst, arith}
use Rattle.std.proofs.lemmas.List.{take_all}
use Rattle.part_keys.specs.Inner.KeyTexts.{AreAmong}
use Rattle.part_keys.proofs.KeyFacts.{among-next}
use Rattle.part_keys.proofs.needed.most_of.Goals as goal

pub loop-key-preserved : goal.loop-key-preserved
loop-key-preserved c =
    among-next c.loop-key.most c.in_ok-most.most c.args.keys.now c.loop-key.key-index _ c.loop-key-test.true c.in_ok-most.ensures.more c.loop-key.invariant c.in_ok-most.ensures.among

pub returns : goal.returns
returns c =
    let all : length c.args.keys.now ≤ c.loop-key.key-index = omega (arith, c.loop-key-test.false) in
    subst (AreAmong c.loop-key.most) (take_all c.loop-key.key-index c.args.keys.now all) c.loop-key.invariant
