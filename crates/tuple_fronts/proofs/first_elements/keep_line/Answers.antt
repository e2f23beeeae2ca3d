use Rattle.std.proofs.lemmas.Result.{on_ok_weaker}
use Rattle.tuple_fronts.proofs.KeptFacts.{keeps-ended}
use Rattle.tuple_fronts.specs.Inner.Hearing.{known_elements}
use Rattle.tuple_fronts.proofs.first_elements.keep_line.Goals as goal

pub returns : goal.returns
returns c = on_ok_weaker c.end_front.result
    (keeps-ended c.args.kept.now c.begin_front.new.kept c.end_front.new.self (known_elements c.args.enc c.args.is_listed c.args.raw.now) c.in_ok-begin_front.ensures) c.end_front.ensures
