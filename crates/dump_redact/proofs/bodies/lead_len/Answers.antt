use Rattle.std.proofs.Common.{◌-◌, length, take, drop, sym, subst, ◌∙◌, ap}
use Rattle.term_forms.specs.Words.{IsLed, led_of}
use Rattle.dump_redact.proofs.bodies.lead_len.Goals as goal

pub returns-in_err-chars-clause-lead : goal.returns-in_err-chars-clause-lead
returns-in_err-chars-clause-lead c =
    rw c.from_residual.ensures (λ body is. c.number_is_in_front.ensures.none body (ap led_of (sym is) ∙ sym c.in_err-chars.ensures.exact))

pub returns-clause-lead : goal.returns-clause-lead
returns-clause-lead c = λ body is.
    let n = c.in_ok-chars.field-0-0 in
    let rest = c.in_ok-chars.chars.now in
    let found = c.number_is_in_front.ensures.found body rest n (ap led_of (sym is) ∙ sym c.in_ok-chars.ensures.exact) in
    let led = (c.number_is_read.ensures body n (drop (length (take 17 body) - length rest) body)).0 found in
    (n, subst (λ front. IsLed body n (drop (length front - length rest) body)) (sym is) led)
