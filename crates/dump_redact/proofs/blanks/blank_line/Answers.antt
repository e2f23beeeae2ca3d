use Rattle.std.proofs.Common.{◌++◌, ◌∙◌, take, map, ap}
use Rattle.dump_redact.specs.declared.blanks.Stretch.TheVariants.{Payload}
use Rattle.dump_redact.specs.Redacted.{blank}
use Rattle.dump_redact.specs.Inner.Copying.{copied, stretch_behind}
use Rattle.dump_redact.proofs.Stretches.{digits-text, digits-behind}
use Rattle.dump_redact.proofs.blanks.blank_line.Goals as goal

pub returns-clause-text : goal.returns-clause-text
returns-clause-text c =
    let enc = c.args.enc in
    let chars = c.args.chars.now in
    let len = c.digits_len-len.result in
    let halves = c.split_at_mut-digits.ensures in
    ap (λ l. l ++ c.blank_upto_lf.new.chars) (c.blank_digits.ensures ∙ ap (map (blank enc)) halves.front)
    ∙ ap (λ l. map (blank enc) (take len chars) ++ l) (c.blank_upto_lf.ensures.text ∙ ap (copied (Payload enc)) halves.back)
    ∙ digits-text enc chars len c.digits_len-len.ensures.digits

pub returns-clause-behind : goal.returns-clause-behind
returns-clause-behind c =
    let enc = c.args.enc in
    c.blank_upto_lf.ensures.behind
    ∙ ap (stretch_behind (Payload enc)) c.split_at_mut-digits.ensures.back
    ∙ digits-behind enc c.args.chars.now c.digits_len-len.result c.digits_len-len.ensures.digits
