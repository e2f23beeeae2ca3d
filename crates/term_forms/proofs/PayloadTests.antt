-- Whether characters are the payload of a number of bytes.
use Rattle.std.proofs.Common.{◌≡◌, ◌↔◌, ℕ, ◌==◌, true, false, List, length, Option, None, Some, Decides, refl, ap, ◌∙◌}
use Rattle.std.specs.Option.{option_map_or}
use Rattle.std.proofs.lemmas.Bool.{eq-eqb, eqb-true}
use Rattle.binary_payloads.specs.declared.enc.Enc.{Enc}
use Rattle.binary_payloads.specs.Payload.{IsPayload, IsPayloadOf}
use Rattle.binary_payloads.specs.ReadingPayloads.{payload_bytes}
use Rattle.term_forms.specs.ReadingForms.{payload_test}

-- the law of binary_payloads that is taken from its function
abbrev pub PayloadIsRead : Enc → Type 0
PayloadIsRead enc = (chars bytes : List ℕ) → (payload_bytes enc chars ≡ Some bytes) ↔ IsPayload enc chars bytes

sized : (o : Option (List ℕ)) (size : ℕ) → option_map_or (λ bytes. length bytes == size) o false ≡ true → (bytes : List ℕ) × (o ≡ Some bytes) × (length bytes ≡ size)
sized None size h = cc h
sized (Some bytes) size h = (bytes, refl, eqb-true (length bytes) size h)

pub payload_test-decides : (enc : Enc) → PayloadIsRead enc → (size : ℕ) (chars : List ℕ) → Decides (payload_test enc size chars) (IsPayloadOf enc chars size)
unfolding payload_test
payload_test-decides enc law size chars = (
  λ h.
      let it = sized (payload_bytes enc chars) size h in
      record { bytes = it.0; count = it.2; payload = (law chars it.0).0 it.1 },
  λ is.
      ap (λ o. option_map_or (λ bytes. length bytes == size) o false) ((law chars is.bytes).1 is.payload)
      ∙ eq-eqb (length is.bytes) size is.count,
)
