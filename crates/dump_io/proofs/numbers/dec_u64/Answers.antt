use Rattle.std.proofs.Common.{◌≡◌, ◌+◌, ◌*◌, ◌^◌, ◌<◌, ◌≤◌, true, length, take, get_or, Some, sym, ◌∙◌, ap, subst, arith}
use Rattle.std.specs.Char.{digit_value}
use Rattle.std.proofs.lemmas.Bool.{lt-ltb, and_from}
use Rattle.std.proofs.lemmas.Bool.Decides.{nat_tests}
use Rattle.std.proofs.lemmas.List.{take_all}
use Rattle.std.proofs.lemmas.List.Folds.{list_all_more}
use Rattle.std.proofs.lemmas.Int.Digits.{digits_value_more}
use Rattle.std.specs.List.{list_all}
use Rattle.std.specs.Str.Parse.{digits_value}
use Rattle.dump_io.proofs.Numerals.{is_digit_of, number_of-stopped, number_of-read}
use Rattle.dump_io.proofs.numbers.dec_u64.Goals as goal

pub returns-in_err-number : goal.returns-in_err-number
returns-in_err-number c =
    let text = c.args.text.now in
    let digit = get_or text c.loop-digit.digit-index 0 in
    cc (c.from_residual.ensures, number_of-stopped 10 20 text c.loop-digit.digit-index (omega arith) c.loop-digit-test.true (λ fits. c.in_err-number.ensures (fits.0, subst (λ n. n * 10 + digit_value digit < 2 ^ 64) (sym c.loop-digit.invariant.0) fits.1)))

pub loop-digit-preserved : goal.loop-digit-preserved
loop-digit-preserved c =
    let text = c.args.text.now in
    let i = c.loop-digit.digit-index in
    let digit = get_or text i 0 in
    let added = c.in_ok-number.ensures in (
      added.1 ∙ ap (λ n. n * 10 + digit_value digit) c.loop-digit.invariant.0 ∙ sym (digits_value_more 10 text i c.loop-digit-test.true),
      list_all_more (is_digit_of 10) text i 0 c.loop-digit-test.true ∙ and_from _ _ c.loop-digit.invariant.1 (lt-ltb _ _ added.0.0),
      omega (arith, added.0.1, added.1),
    )

pub returns : goal.returns
returns c =
    let text = c.args.text.now in
    let all : take c.loop-digit.digit-index text ≡ text = take_all c.loop-digit.digit-index text c.loop-digit-test.false in
    let value : c.loop-digit.number ≡ digits_value 10 text = c.loop-digit.invariant.0 ∙ ap (digits_value 10) all in
    let digits : list_all (is_digit_of 10) text ≡ true = ap (list_all (is_digit_of 10)) (sym all) ∙ c.loop-digit.invariant.1 in
    let some : 1 ≤ length text = grind (arith, nat_tests, c.if-is_empty.ensures) in
    ap Some value ∙ sym (number_of-read 10 20 text some c.if-text-gt20.false digits (omega (arith, value, c.loop-digit.invariant.2)))
