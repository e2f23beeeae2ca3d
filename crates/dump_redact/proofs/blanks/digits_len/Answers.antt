use Rattle.std.proofs.Common.{◌≡◌, ◌+◌, ◌-◌, true, take, drop, sym, ◌∙◌, ap, arith}
use Rattle.std.specs.List.{list_all}
use Rattle.binary_payloads.specs.Payload.{is_digit_of}
use Rattle.dump_redact.proofs.Stretches.{digits-joined}
use Rattle.dump_redact.proofs.blanks.digits_len.Goals as goal

pub returns-then-are_digits-clause-digits : goal.returns-then-are_digits-clause-digits
returns-then-are_digits-clause-digits c =
    let enc = c.args.enc in
    let chars = c.args.chars.now in
    let len = c.blocks_len-len.result in
    let end = c.last_digit_end-end.result in
    let last : list_all (is_digit_of enc) (take 64 (drop (end - 64) chars)) ≡ true =
    ap (list_all (is_digit_of enc)) (sym c.block.ensures) ∙ sym c.are_digits.ensures ∙ c.if-are_digits.true in
    let count : end - 64 + 64 ≡ end = omega (arith, c.if-len-lt-BLOCK.false, c.if-len-end.true) in
    ap (λ n. list_all (is_digit_of enc) (take n chars)) (sym count)
    ∙ digits-joined enc chars len (end - 64) 64 (omega (arith, c.if-end-len-lt-BLOCK.true)) c.blocks_len-len.ensures.digits last
