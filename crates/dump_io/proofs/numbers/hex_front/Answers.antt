use Rattle.std.proofs.Common.{◌≡◌, true, get_or, ◌∙◌, arith}
use Rattle.std.specs.Char.{digit_value}
use Rattle.std.proofs.lemmas.Bool.{and_from}
use Rattle.std.proofs.lemmas.Int.Digits.{digits_value_more}
use Rattle.std.proofs.lemmas.List.Folds.{list_all_more}
use Rattle.std.proofs.lemmas.List.Sums.{prefix_len-drop_yes}
use Rattle.dump_io.specs.Numbers.{is_hex_digit}
use Rattle.dump_io.proofs.HexFronts.{digit-value, front-grows, front-number, front-within}
use Rattle.dump_io.proofs.numbers.hex_front.Goals as goal

-- the next byte is a digit with the value that was found
digit : (c : goal.Else-value-gt15) → (is_hex_digit (get_or c.longest_front-front.result.now c.loop-count.count 0) ≡ true) × (c.hex_value-value.result ≡ digit_value (get_or c.longest_front-front.result.now c.loop-count.count 0))
digit c = digit-value _ _ _ c.hex_value-value.ensures (omega (arith, c.if-value-gt15.false))

pub overflow_mul-number : goal.overflow_mul-number
overflow_mul-number c =
    let front = c.longest_front-front.result.now in
    let invariant = c.loop-count.invariant in
    let small = front-grows c.args.text.now front c.longest_front-front.ensures c.loop-count.count c.loop-count-test.true invariant.2 in
    omega (arith, small, invariant.3)

pub overflow_add-number : goal.overflow_add-number
overflow_add-number c =
    let front = c.longest_front-front.result.now in
    let invariant = c.loop-count.invariant in
    let small = front-grows c.args.text.now front c.longest_front-front.ensures c.loop-count.count c.loop-count-test.true invariant.2 in
    omega (arith, small, invariant.3, c.if-value-gt15.false)

pub loop-count-preserved : goal.loop-count-preserved
loop-count-preserved c =
    let front = c.longest_front-front.result.now in
    let i = c.loop-count.count in
    let inside = c.loop-count-test.true in
    let invariant = c.loop-count.invariant in
    let found = digit c in (
      omega (arith, inside),
      omega (arith, invariant.1, prefix_len-drop_yes is_hex_digit front i 0 inside found.0),
      list_all_more is_hex_digit front i 0 inside ∙ and_from _ _ invariant.2 found.0,
      cc (invariant.3, found.1, digits_value_more 16 front i inside),
    )

pub returns-then-value-gt15-clause-number : goal.returns-then-value-gt15-clause-number
returns-then-value-gt15-clause-number c =
    front-number c.args.text.now c.longest_front-front.result.now c.longest_front-front.ensures c.loop-count.count c.loop-count.invariant.0 c.loop-count.invariant.2 c.loop-count.number c.loop-count.invariant.3

pub returns-clause-within : goal.returns-clause-within
returns-clause-within c =
    front-within c.args.text.now c.longest_front-front.result.now c.longest_front-front.ensures c.loop-count.count c.loop-count.invariant.0

pub returns-clause-number : goal.returns-clause-number
returns-clause-number c =
    front-number c.args.text.now c.longest_front-front.result.now c.longest_front-front.ensures c.loop-count.count c.loop-count.invariant.0 c.loop-count.invariant.2 c.loop-count.number c.loop-count.invariant.3
