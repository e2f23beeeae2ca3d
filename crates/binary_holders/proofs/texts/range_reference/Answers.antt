use Rattle.std.proofs.Common.{sym, ◌∙◌}
use Rattle.binary_holders.proofs.TextFacts.{number-none, offset-none, sized-none, sized-some}
use Rattle.binary_holders.proofs.texts.range_reference.Goals as goal

pub returns-in_err-number : goal.returns-in_err-number
returns-in_err-number c = c.from_residual.ensures ∙ sym (number-none c.args.address c.args.whole c.args.range.now (sym c.in_err-number.ensures.exact))

pub returns-in_err-size : goal.returns-in_err-size
returns-in_err-size c =
    c.from_residual-in_err-size.ensures
    ∙ sym (offset-none c.args.address c.args.whole c.args.range.now c.in_ok-number.rest.now c.in_ok-number.number (sym c.in_ok-number.ensures.exact) (sym c.in_err-size.ensures.exact))

pub returns-in_err-hex_u64 : goal.returns-in_err-hex_u64
returns-in_err-hex_u64 c =
    c.from_residual-in_err-hex_u64.ensures
    ∙ sym (sized-none c.args.address c.args.whole c.args.range.now c.in_ok-number.rest.now c.in_ok-number.number (sym c.in_ok-number.ensures.exact) c.in_ok-size.size.now c.in_ok-size.field-0-0 (sym c.in_ok-size.ensures.exact) (sym c.in_err-hex_u64.ensures))

pub returns : goal.returns
returns c =
    sym (sized-some c.args.address c.args.whole c.args.range.now c.in_ok-number.rest.now c.in_ok-number.number (sym c.in_ok-number.ensures.exact) c.in_ok-size.size.now c.in_ok-size.field-0-0 (sym c.in_ok-size.ensures.exact) c.in_ok-hex_u64.field-0 (sym c.in_ok-hex_u64.ensures))
