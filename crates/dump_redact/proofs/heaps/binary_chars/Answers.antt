use Rattle.std.proofs.Common.{◌∙◌, ap, refl, sym, true≢false, Some}
use Rattle.std.specs.Prelude.{codes}
use Rattle.std.specs.Option.{option_copied}
use Rattle.std.proofs.lemmas.Bool.Decides.{Decides-eqb}
use Rattle.std.proofs.lemmas.Slice.Eq.{strip_prefix_is}
use Rattle.dump_redact.proofs.Places.{bin-chars, no-bin-chars, only-payload}
use Rattle.dump_redact.proofs.heaps.binary_chars.Goals as goal

pub returns-in_err-size : goal.returns-in_err-size
returns-in_err-size c =
    let spelled = strip_prefix_is Decides-eqb c.args.spelled.now (codes "Yh") (Some c.in_ok-led.led) c.in_ok-led.ensures.cases in
    ap option_copied c.from_residual-in_err-size.ensures
    ∙ no-bin-chars c.args.enc c.form_is_read.ensures.found c.args.spelled.now c.in_ok-led.led.now spelled (λ size chars led payload. c.in_err-size.ensures.none size chars led)

pub returns-then-is_payload : goal.returns-then-is_payload
returns-then-is_payload c =
    let spelled = strip_prefix_is Decides-eqb c.args.spelled.now (codes "Yh") (Some c.in_ok-led.led) c.in_ok-led.ensures.cases in
    bin-chars c.args.enc c.form_is_read.ensures.found c.args.spelled.now c.in_ok-size.chars.now c.in_ok-size.size
    (c.in_ok-led.led.now, spelled, c.in_ok-size.ensures.found, c.if-is_payload.ensures.0 refl)

pub returns-else-is_payload : goal.returns-else-is_payload
returns-else-is_payload c =
    let spelled = strip_prefix_is Decides-eqb c.args.spelled.now (codes "Yh") (Some c.in_ok-led.led) c.in_ok-led.ensures.cases in
    no-bin-chars c.args.enc c.form_is_read.ensures.found c.args.spelled.now c.in_ok-led.led.now spelled
    (only-payload c.number_is_read.ensures c.args.enc c.in_ok-led.led.now c.in_ok-size.chars.now c.in_ok-size.size c.in_ok-size.ensures.found (λ payload. true≢false (sym (c.is_payload.ensures.1 payload) ∙ c.if-is_payload.false)))
