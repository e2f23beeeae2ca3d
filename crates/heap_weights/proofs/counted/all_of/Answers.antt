use Rattle.std.proofs.Common.{arith}
use Rattle.heap_weights.proofs.Joining.{all-added, all-next}
use Rattle.heap_weights.proofs.counted.all_of.Goals as goal

pub loop-place-preserved : goal.loop-place-preserved
loop-place-preserved c =
    all-next c.args.first c.args.weights.now c.loop-place.place c.loop-place.all c.sum_of-all.result _ (omega arith) c.loop-place.invariant c.sum_of-all.ensures

pub returns : goal.returns
returns c = all-added c.args.first c.args.weights.now c.loop-place.place c.loop-place.all (omega arith) c.loop-place.invariant
