use Rattle.std.proofs.Common.{◌≡◌, ◌≤◌, ◌∙◌, sym, arith}
use Rattle.std.proofs.lemmas.Result.{on_ok_weaker}
use Rattle.term_forms.specs.Seen.{element}
use Rattle.tuple_fronts.proofs.ReadFacts.{pair-both, pair-head}
use Rattle.tuple_fronts.proofs.first_elements.keep_pair.Goals as goal

pub returns-then-kept-eq1 : goal.returns-then-kept-eq1
returns-then-kept-eq1 c =
    let pushed = c.in_ok-push.ensures in
    let one : c.args.kept.now.most ≡ 1 = sym pushed.most ∙ c.if-kept-eq1.true in
    pair-head c.args.kept.now c.push.new.self (element c.args.head.now.elem) (element c.args.tail.now.elem) c.spelling_of.result.now one c.spelling_of.ensures pushed

pub returns : goal.returns
returns c =
    let pushed = c.in_ok-push.ensures in
    let two : 2 ≤ c.args.kept.now.most = omega (arith, pushed.most) in
    on_ok_weaker c.push-2.result
    (pair-both c.args.kept.now c.push.new.self c.push-2.new.self (element c.args.head.now.elem) (element c.args.tail.now.elem) c.spelling_of.result.now c.spelling_of-2.result.now two c.spelling_of.ensures pushed
    c.spelling_of-2.ensures) c.push-2.ensures
