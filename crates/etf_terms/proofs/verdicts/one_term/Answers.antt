use Rattle.std.proofs.Common.{ap, ◌∙◌, arith}
use Rattle.std.specs.Prelude.{Some}
use Rattle.etf_terms.specs.Walks.{Done, left_of}
use Rattle.etf_terms.proofs.Whole.{left-more, no-bytes, within-done, within-lost}
use Rattle.etf_terms.proofs.verdicts.one_term.Goals as goal

pub returns-then-behind-eq0-clause-left : goal.returns-then-behind-eq0-clause-left
returns-then-behind-eq0-clause-left c = ap left_of (c.in-Ok.ensures ∙ ap Done (no-bytes c.in-Ok.behind.now c.if-behind-eq0.true))

pub returns-else-behind-eq0-clause-left : goal.returns-else-behind-eq0-clause-left
returns-else-behind-eq0-clause-left c = ap left_of c.in-Ok.ensures ∙ left-more c.in-Ok.behind.now c.if-behind-eq0.false

pub returns-else-behind-eq0-clause-within : goal.returns-else-behind-eq0-clause-within
returns-else-behind-eq0-clause-within c = within-done c.args.bytes.now c.in-Ok.behind.now c.in-Ok.ensures

pub returns-in-Err-clause-left : goal.returns-in-Err-clause-left
returns-in-Err-clause-left c = ap left_of c.in-Err.ensures.1 ∙ ap Some c.in-Err.ensures.2

pub returns-in-Err-clause-within : goal.returns-in-Err-clause-within
returns-in-Err-clause-within c =
    let within = within-lost c.args.bytes.now c.in-Err.ensures.0 c.in-Err.ensures.1 in
    omega (arith, within, c.in-Err.ensures.2)
