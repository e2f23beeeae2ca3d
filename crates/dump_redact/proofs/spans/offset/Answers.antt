use Rattle.std.proofs.Common.{◌≡◌, ◌<◌, length, sym, ◌∙◌, ap, arith}
use Rattle.dump_sections.specs.Sections.{Section}
use Rattle.dump_redact.proofs.Offsets.{at-offset, offset-end}
use Rattle.dump_redact.proofs.spans.offset.Goals as goal

pub returns-then-i-len-clause-value : goal.returns-then-i-len-clause-value
returns-then-i-len-clause-value c =
    let index = c.args.index.now in
    let inside : c.args.i < length index.headers = omega (arith, c.if-i-len.true, c.len.ensures.value) in
    ap (λ (x : Section). x.at) (sym c.extent.ensures.at_place) ∙ at-offset index c.args.i inside

pub returns-else-i-len-clause-value : goal.returns-else-i-len-clause-value
returns-else-i-len-clause-value c =
    let index = c.args.index.now in
    let past : c.args.i ≡ length index.headers = omega (arith, c.if-i-len.false, c.len.ensures.value, c.requires) in
    c.size.ensures.value ∙ sym (offset-end index c.size.ensures.bounded c.args.i past)
