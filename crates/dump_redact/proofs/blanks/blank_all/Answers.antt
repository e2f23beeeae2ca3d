use Rattle.std.proofs.Common.{◌<◌, length, get_or, set, ◌∙◌, ap, arith}
use Rattle.std.proofs.lemmas.List.{get_or_default}
use Rattle.std.proofs.lemmas.List.Edits.{map_over_more}
use Rattle.dump_redact.specs.Redacted.{blank}
use Rattle.dump_redact.proofs.blanks.blank_all.Goals as goal

pub loop-c-preserved : goal.loop-c-preserved
loop-c-preserved c =
    let chars = c.loop-c.chars in
    let i = c.loop-c.c-index in
    let item = get_or chars i 0 in
    let inside : i < length chars = omega (arith, c.loop-c-test.true, c.loop-c.auto.chars) in
    ap (set chars i) c.blanked.ensures
    ∙ map_over_more (blank c.args.enc) c.args.chars.now chars i item c.loop-c-test.true c.loop-c.invariant (get_or_default chars i 0 item inside)
