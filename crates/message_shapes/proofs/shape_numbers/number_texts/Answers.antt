use Rattle.message_shapes.proofs.NumberedFacts.{have-more}
use Rattle.message_shapes.proofs.shape_numbers.number_texts.Goals as goal

pub loop-i-preserved : goal.loop-i-preserved
loop-i-preserved c =
    have-more c.loop-i.known c.number.new.self c.args.texts.now c.loop-i.i c.get.result.now c.loop-i.numbers.items c.push.new.self.items c.in_ok-number.number
    c.number.ensures.grown c.get.ensures c.in_ok-number.ensures.number c.in_ok-push.ensures.items c.loop-i.invariant
