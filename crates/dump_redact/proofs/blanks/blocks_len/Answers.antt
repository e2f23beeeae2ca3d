use Rattle.std.proofs.Common.{◌≡◌, true, take, drop, sym, ◌∙◌, ap, arith}
use Rattle.std.specs.List.{list_all}
use Rattle.std.proofs.lemmas.Bool.{and_from}
use Rattle.std.proofs.lemmas.List.Folds.{list_all-append}
use Rattle.dump_io.specs.Laws.Reads.{take-two}
use Rattle.binary_payloads.specs.Payload.{is_digit_of}
use Rattle.dump_redact.proofs.blanks.blocks_len.Goals as goal

pub loop-len-preserved : goal.loop-len-preserved
loop-len-preserved c =
    let chars = c.args.chars.now in
    let len = c.loop-len.len in
    let is_digit = is_digit_of c.args.enc in
    let next : list_all is_digit (take 64 (drop len chars)) ≡ true = ap (list_all is_digit) (sym c.block.ensures) ∙ sym c.are_digits.ensures ∙ c.if-are_digits.true in (
      omega (arith, c.loop-len-test.true, c.loop-len.invariant.0),
      ap (list_all is_digit) (take-two len 64 chars) ∙ list_all-append is_digit (take len chars) (take 64 (drop len chars)) ∙ and_from _ _ c.loop-len.invariant.1 next,
    )
