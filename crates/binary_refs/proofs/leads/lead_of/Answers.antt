use Rattle.std.proofs.Common.{◌-◌, length, drop, Some, sym, ◌∙◌, ap}
use Rattle.std.specs.Option.{option_map}
use Rattle.term_forms.specs.Words.{led_of}
use Rattle.binary_refs.specs.Inner.Leads.{led_by}
use Rattle.binary_refs.proofs.leads.lead_of.Goals as goal

pub returns-in_err-length-clause-lead : goal.returns-in_err-length-clause-lead
returns-in_err-length-clause-lead c = λ body is.
    let none = ap led_of (sym is) ∙ sym c.in_err-length.ensures.exact in
    ap (option_map (led_by body)) c.from_residual.ensures ∙ sym (c.number_is_in_front.ensures.none body none)

pub returns-clause-lead : goal.returns-clause-lead
returns-clause-lead c = λ body is.
    let n = c.in_ok-length.length in
    let rest = c.in_ok-length.rest.now in
    let found = ap led_of (sym is) ∙ sym c.in_ok-length.ensures.exact in
    ap (λ front. Some (n, drop (length front - length rest) body)) is ∙ sym (c.number_is_in_front.ensures.found body rest n found)
