-- A payload read a piece at a time.
use Rattle.std.proofs.Common.{◌≡◌, ℕ, ◌-◌, ◌%◌, ◌<◌, ◌≤◌, List, ◌++◌, length, take, drop, sym, ap, ◌∙◌, subst, arith}
use Rattle.std.proofs.lemmas.List.{take-append-drop, length-take-le, length-drop, length-append}
use Rattle.binary_payloads.specs.declared.enc.Enc.{Enc}
use Rattle.binary_payloads.specs.declared.enc.Enc.TheVariants.{Hex, Base64}
use Rattle.binary_payloads.specs.Payload.{IsPayload, IsPayloadOf, chars_of, group_of}
use Rattle.binary_payloads.proofs.Encodings.{length-payload, payload-take, payload-drop, payload-append}

pub chars_of-grows : (enc : Enc) (m n : ℕ) → m ≤ n → chars_of enc m ≤ chars_of enc n
chars_of-grows Hex m n h = omega arith
chars_of-grows Base64 m n h = omega arith

-- the characters of a payload are as many as its size asks
pub payload_of-length : (enc : Enc) (chars : List ℕ) (n : ℕ) → IsPayloadOf enc chars n → length chars ≡ chars_of enc n
payload_of-length enc chars n is = length-payload enc chars is.bytes is.payload ∙ ap (chars_of enc) is.count

-- fewer characters than a front of the bytes asks are no payload
pub too_few : (enc : Enc) (rest : List ℕ) (p n width : ℕ) → width ≡ chars_of enc p → p ≤ n → length rest < width → IsPayloadOf enc rest n → ⊥
too_few enc rest p n width wide more short is =
    let len = payload_of-length enc rest n is in
    let grows = chars_of-grows enc p n more in
    absurd (omega (arith, len, grows, wide, short))

pub payload_of-front : (enc : Enc) (rest : List ℕ) (p n : ℕ) → p % group_of enc ≡ 0 → p ≤ n → IsPayloadOf enc rest n
    → IsPayloadOf enc (take (chars_of enc p) rest) p
payload_of-front enc rest p n whole fits is =
    let within : p ≤ length is.bytes = subst (λ k. p ≤ k) (sym is.count) fits in
    record { bytes = take p is.bytes; count = length-take-le p is.bytes within; payload = payload-take enc p rest is.bytes whole within is.payload }

pub payload_of-rest : (enc : Enc) (rest : List ℕ) (p n : ℕ) → p % group_of enc ≡ 0 → p ≤ n → IsPayloadOf enc rest n
    → IsPayloadOf enc (drop (chars_of enc p) rest) (n - p)
payload_of-rest enc rest p n whole fits is =
    let within : p ≤ length is.bytes = subst (λ k. p ≤ k) (sym is.count) fits in
    record {
      bytes = drop p is.bytes;
      count = length-drop p is.bytes ∙ ap (λ k. k - p) is.count;
      payload = payload-drop enc p rest is.bytes whole within is.payload;
    }

pub payload_of-whole : (enc : Enc) (rest : List ℕ) (p n : ℕ) → p % group_of enc ≡ 0 → p ≤ n
    → IsPayloadOf enc (take (chars_of enc p) rest) p → IsPayloadOf enc (drop (chars_of enc p) rest) (n - p) → IsPayloadOf enc rest n
payload_of-whole enc rest p n whole fits one other =
    let w : ℕ = chars_of enc p in
    let ends : length one.bytes % group_of enc ≡ 0 = ap (λ k. k % group_of enc) one.count ∙ whole in
    let joined = payload-append enc (take w rest) (drop w rest) one.bytes other.bytes ends one.payload other.payload in
    let sum = length-append one.bytes other.bytes in
    record {
      bytes = one.bytes ++ other.bytes;
      count = omega (arith, sum, one.count, other.count, fits);
      payload = subst (λ chars. IsPayload enc chars (one.bytes ++ other.bytes)) (take-append-drop w rest) joined;
    }
