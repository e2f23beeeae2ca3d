-- The words of a reference that characters write.
use Rattle.std.proofs.Common.{◌≡◌, ℕ, ◌==◌, Bool, true, false, cond, List, length, Option, None, Some, refl}
use Rattle.std.specs.Prelude.{◌↔◌, ◌≤◌, take, replicate}
use Rattle.std.proofs.lemmas.List.{length-take-le}
use Rattle.std.specs.Option.{option_and_then}
use Rattle.std.proofs.lemmas.Bool.{eqb-true}
use Rattle.binary_payloads.specs.Payload.{IsPayload, IsPayloadOf}
use Rattle.binary_payloads.specs.ReadingPayloads.{payload_bytes}
use Rattle.binary_payloads.specs.declared.enc.Enc.{Enc}
use Rattle.etf_terms.specs.References.{reference_in}
use Rattle.wait_requests.specs.Inner.Reading.{payload_words}

-- what is computed of characters is the bytes whose payload they are
abbrev pub ArePayloads : Enc → Type 0
ArePayloads enc = (chars bytes : List ℕ) → (payload_bytes enc chars ≡ Some bytes) ↔ IsPayload enc chars bytes

module _ (enc : Enc) (size : ℕ) (chars : List ℕ) (payloads : ArePayloads enc) where
  -- characters that are no payload of so many bytes write no words
  pub not-payload : (IsPayloadOf enc chars size → ⊥) → payload_words enc size chars ≡ None
  not-payload none = by (payload_bytes enc chars) refl
    where
      sized : (bytes : List ℕ) → payload_bytes enc chars ≡ Some bytes → (b : Bool) → (length bytes == size) ≡ b → cond b (reference_in bytes) None ≡ None
      sized bytes is true same = absurd (none (record { bytes = bytes; count = eqb-true (length bytes) size same; payload = (payloads chars bytes).0 is }))
      sized bytes is false other = refl

      by : (o : Option (List ℕ)) → payload_bytes enc chars ≡ o → option_and_then (λ bytes. cond (length bytes == size) (reference_in bytes) None) o ≡ None
      by None is = refl
      by (Some bytes) is = sized bytes is (length bytes == size) refl

-- the buffer, and so many of its bytes
abbrev pub zeros : List ℕ
zeros = replicate 2048 0

pub room : (n : ℕ) → n ≤ 2048 → length (take n zeros) ≡ n
room n few = length-take-le n zeros few
