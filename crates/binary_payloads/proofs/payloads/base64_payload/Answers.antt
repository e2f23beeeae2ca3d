use Rattle.std.proofs.Common.{◌≡◌, length, sym, ◌∙◌, eq-eqb, eqb-true, rules}
use Rattle.base64.specs.GeneralPurpose.{IsBytes}
use Rattle.binary_payloads.proofs.Base64Payload.{base64_yes, base64_found}
use Rattle.binary_payloads.proofs.HexDigits.{ok-same}
use Rattle.binary_payloads.proofs.payloads.base64_payload.Goals as goal

pub returns-in-Ok-clause-found : goal.returns-in-Ok-clause-found
returns-in-Ok-clause-found c =
    let kept : length c.decode_slice.new.output ≡ length c.args.into.now = c.decode_slice.auto.output in (
      λ same.
          let bytes : IsBytes c.args.chars.now = λ i. search (rules, c.type_inv.chars i) in
          let made : IsBytes c.decode_slice.new.output = λ i. search (rules, c.type_inv.into i) in
          let all : c.in-Ok.count ≡ length c.decode_slice.new.output = eqb-true _ _ same in
          record {
            bytes = c.decode_slice.new.output;
            count = kept;
            payload = base64_yes c.args.chars.now c.args.into.now c.decode_slice.new.output c.in-Ok.count bytes made (sym c.in-Ok.ensures.value) c.in-Ok.ensures.written kept all;
          },
      λ is.
          let answer = base64_found c.args.chars.now (length c.args.into.now) is in
          let same : c.in-Ok.count ≡ length c.args.into.now = ok-same _ _ (c.in-Ok.ensures.value ∙ answer) in
          eq-eqb c.in-Ok.count (length c.decode_slice.new.output) (same ∙ sym kept),
    )

pub returns-in-Ok-clause-bytes : goal.returns-in-Ok-clause-bytes
returns-in-Ok-clause-bytes c = λ same.
    let bytes : IsBytes c.args.chars.now = λ i. search (rules, c.type_inv.chars i) in
    let made : IsBytes c.decode_slice.new.output = λ i. search (rules, c.type_inv.into i) in
    let kept : length c.decode_slice.new.output ≡ length c.args.into.now = c.decode_slice.auto.output in
    let all : c.in-Ok.count ≡ length c.decode_slice.new.output = eqb-true _ _ same in
    base64_yes c.args.chars.now c.args.into.now c.decode_slice.new.output c.in-Ok.count bytes made (sym c.in-Ok.ensures.value) c.in-Ok.ensures.written kept all

pub returns-in-Err-clause-found : goal.returns-in-Err-clause-found
returns-in-Err-clause-found c = (
  λ no. cc no,
  λ is.
      let bad = c.in-Err.ensures.value ∙ base64_found c.args.chars.now (length c.args.into.now) is in
      cc bad,
)
