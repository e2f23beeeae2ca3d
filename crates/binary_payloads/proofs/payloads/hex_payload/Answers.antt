use Rattle.std.proofs.Common.{sym, ◌∙◌}
use Rattle.binary_payloads.proofs.HexPayload.{hex_yes, hex_found}
use Rattle.binary_payloads.proofs.payloads.hex_payload.Goals as goal

pub returns-clause-found : goal.returns-clause-found
returns-clause-found c = (
  λ yes.
      let got = hex_yes c.args.chars.now _ _ _ c.decode_to_slice.ensures.value (sym c.is_ok.ensures.value ∙ yes) in
      record { bytes = c.decode_to_slice.new.out; count = got.1; payload = got.0 },
  λ is. c.is_ok.ensures.value ∙ hex_found c.args.chars.now _ _ _ c.decode_to_slice.ensures.value is,
)

pub returns-clause-bytes : goal.returns-clause-bytes
returns-clause-bytes c = λ yes. (hex_yes c.args.chars.now _ _ _ c.decode_to_slice.ensures.value (sym c.is_ok.ensures.value ∙ yes)).0
