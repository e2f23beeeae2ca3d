use Rattle.std.proofs.Common.{◌≤◌, length, drop, rules, arith}
use Rattle.std.proofs.lemmas.List.{drop_all}
use Rattle.dump_io.proofs.Digits.{text_of-all, text_of-step, text_of-last, drop-put, sixteenth}
use Rattle.dump_io.proofs.hex.put_digits.Goals as goal

pub loop-at-init : goal.loop-at-init
loop-at-init c = (
  omega arith,
  search (rules, c.ranges.n),
  (λ lt. absurd (omega (arith, lt))),
  text_of-all c.args.n (drop 16 c.args.buffer.now) (drop_all 16 c.args.buffer.now (omega (arith, c.requires))),
)

pub returns-then-rest-eq0-clause-text : goal.returns-then-rest-eq0-clause-text
returns-then-rest-eq0-clause-text c =
    let all = c.loop-at.invariant in
    let some = c.loop-at-test.true in
    let fits : c.loop-at.at ≤ length c.loop-at.buffer = omega (arith, all.0, c.loop-at.auto.buffer, c.requires) in
    cc (drop-put c.loop-at.buffer c.loop-at.at c.hex_digit.result some fits, c.hex_digit.ensures, text_of-last c.loop-at.at c.loop-at.rest (drop c.loop-at.at c.loop-at.buffer) some c.if-rest-eq0.true, all.3)

pub loop-at-preserved : goal.loop-at-preserved
loop-at-preserved c =
    let all = c.loop-at.invariant in
    let some = c.loop-at-test.true in
    let more = c.if-rest-eq0.false in
    let fits : c.loop-at.at ≤ length c.loop-at.buffer = omega (arith, all.0, c.loop-at.auto.buffer, c.requires) in (
      omega (arith, all.0),
      sixteenth c.loop-at.rest c.loop-at.at some all.1,
      (λ lt. omega (arith, more)),
      cc (drop-put c.loop-at.buffer c.loop-at.at c.hex_digit.result some fits, c.hex_digit.ensures, text_of-step c.loop-at.at c.loop-at.rest (drop c.loop-at.at c.loop-at.buffer) some more, all.3),
    )
