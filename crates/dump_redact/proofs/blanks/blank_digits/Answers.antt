use Rattle.std.proofs.Common.{◌∙◌, ap, length, replicate}
use Rattle.dump_redact.proofs.Stretches.{digits-zero}
use Rattle.dump_redact.proofs.blanks.blank_digits.Goals as goal

pub returns : goal.returns
returns c =
    let chars = c.args.chars.now in
    c.fill.ensures.after (λ y same. same) ∙ ap (replicate (length chars)) c.zero_of.ensures ∙ digits-zero c.args.enc chars c.requires
