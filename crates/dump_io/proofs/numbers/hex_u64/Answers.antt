use Rattle.std.proofs.Common.{◌≡◌, take, inl, inr, sym, ◌∙◌, ap, arith}
use Rattle.std.proofs.lemmas.List.{take_all}
use Rattle.dump_io.specs.Numbers.{hex_number}
use Rattle.dump_io.proofs.HexFronts.{front-alone}
use Rattle.dump_io.proofs.numbers.hex_u64.Goals as goal
use Rattle.dump_io.proofs.numbers.hex_u64.Goals.{then-count-eq0-via-then-count-eq0, then-count-eq0-via-else-count-eq0+then-count-text}

pub returns-then-count-eq0 : goal.returns-then-count-eq0
returns-then-count-eq0 c =
    sym (front-alone c.args.text.now c.hex_front-count.result.0 c.hex_front-count.ensures.count (elim c.then-count-eq0.branch [
      | then-count-eq0-via-then-count-eq0 w ↦ inl w.if-count-eq0.true
      | then-count-eq0-via-else-count-eq0+then-count-text w ↦ inr w.if-count-text.true
    ]))

pub returns : goal.returns
returns c =
    let count = c.hex_front-count.result.0 in
    let all : take count c.args.text.now ≡ c.args.text.now = take_all count c.args.text.now c.if-count-text.false in
    sym (ap hex_number (sym all) ∙ c.hex_front-count.ensures.number (omega (arith, c.if-count-eq0.false)))
