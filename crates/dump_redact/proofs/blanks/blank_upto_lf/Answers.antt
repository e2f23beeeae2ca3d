use Rattle.std.proofs.Common.{◌∙◌, ap, ◌++◌, drop}
use Rattle.dump_redact.proofs.Stretches.{ended-text, ended-behind, open-text, open-behind}
use Rattle.dump_redact.proofs.blanks.blank_upto_lf.Goals as goal

pub returns-in-Some-clause-text : goal.returns-in-Some-clause-text
returns-in-Some-clause-text c =
    let lf = c.in-Some.ensures in
    ap (λ l. l ++ drop c.in-Some.lf c.args.chars.now) c.blank_all.ensures ∙ ended-text c.args.enc c.args.chars.now c.in-Some.lf lf.0.high lf.0.before lf.1

pub returns-in-Some-clause-behind : goal.returns-in-Some-clause-behind
returns-in-Some-clause-behind c =
    let lf = c.in-Some.ensures in
    ended-behind c.args.enc c.args.chars.now c.in-Some.lf lf.0.high lf.0.before lf.1

pub returns-in-None-clause-text : goal.returns-in-None-clause-text
returns-in-None-clause-text c = c.blank_all-in-None.ensures ∙ open-text c.args.enc c.args.chars.now c.in-None.ensures

pub returns-in-None-clause-behind : goal.returns-in-None-clause-behind
returns-in-None-clause-behind c = open-behind c.args.enc c.args.chars.now c.in-None.ensures
