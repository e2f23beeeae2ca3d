-- Parts of bodies, and what is shown of them.
use Rattle.std.proofs.Common.{◌≡◌, ℕ, ◌-◌, ◌≤◌, ◌==◌, ◌↔◌, ⊎_elim, List, length, take, drop, Option, None, Some, if◌then◌else◌, refl, sym, ◌∙◌, ap, arith}
use Rattle.std.specs.Prelude.{min, replicate}
use Rattle.std.specs.Option.{option_and_then}
use Rattle.std.proofs.lemmas.Bool.{cases_lt, ne_eqb}
use Rattle.std.proofs.lemmas.List.{take_all, length-take, length-take-le, length-drop}
use Rattle.dump_sections.specs.Bodies.{body_length, body_of}
use Rattle.dump_sections.specs.Index.{Contents, IsIndexOf}
use Rattle.dump_sections.specs.Sections.{Section}
use Rattle.binary_payloads.specs.declared.enc.Enc.{Enc}
use Rattle.binary_payloads.specs.declared.enc.Enc.TheVariants.{Hex, Base64}
use Rattle.binary_payloads.specs.Payload.{IsPayload, IsPayloadOf, chars_of}
use Rattle.binary_payloads.specs.ReadingPayloads.{payload_bytes}
use Rattle.binary_refs.specs.Payloads.{counted_bytes}

-- ---- what is shown by characters

abbrev pub AreDecoded : Enc → Type 0
AreDecoded enc = (chars bytes : List ℕ) → (payload_bytes enc chars ≡ Some bytes) ↔ IsPayload enc chars bytes

pub payload-false : (enc : Enc) → AreDecoded enc → (chars : List ℕ) (n : ℕ) → (IsPayloadOf enc chars n → ⊥) → counted_bytes enc n chars ≡ None
payload-false enc law chars n none = by (payload_bytes enc chars) refl
  where
    by : (o : Option (List ℕ)) → payload_bytes enc chars ≡ o → option_and_then (λ found. if length found == n then Some found else None) o ≡ None
    by None is = refl
    by (Some bytes) is =
        ap (λ b. if b then Some bytes else None)
        (ne_eqb (length bytes) n (λ same. none (record { bytes = bytes; count = same; payload = (law chars bytes).0 is })))

pub body-length : (dump : List ℕ) (index : Contents) (s : Section) → IsIndexOf dump index → s.end ≤ index.size → length (body_of dump s) ≡ body_length s
body-length dump index s is within =
    let front = length-take (s.end - s.body) (drop s.body dump) in
    let back = length-drop s.body dump in
    omega (arith, front, back, is.size, within)

-- a payload has a character for each byte at least
pub payload-count : (enc : Enc) (chars : List ℕ) (n : ℕ) → ((text bytes : List ℕ) → IsPayload enc text bytes → length text ≡ chars_of enc (length bytes)) → IsPayloadOf enc chars n → n ≤ length chars
payload-count Hex chars n law is = omega (arith, is.count, law chars is.bytes is.payload)
payload-count Base64 chars n law is = omega (arith, is.count, law chars is.bytes is.payload)

-- the front of a body that is read is that of the whole
pub take-upto : (m n : ℕ) (body : List ℕ) → length body ≡ m → take (min m n) body ≡ take n body
take-upto m n body size = ⊎_elim (λ less. ap (λ k. take k body) (omega (arith, less))) (λ more. ap (λ k. take k body) (omega (arith, more)) ∙ (take_all m body (omega (arith, size)) ∙ sym (take_all n body (omega (arith, size, more))))) (cases_lt n m)

-- the room for the front of a body, and for the bytes of a cover
abbrev pub zeros : ℕ → List ℕ
zeros n = replicate n 0

-- a front of the 17 bytes of room
pub read-front : (m k : ℕ) (front body : List ℕ) → k ≡ min m 17 → length body ≡ m → front ≡ take (length (take k (zeros 17))) body → front ≡ take 17 body
read-front m k front body is size read =
    let few : k ≤ 17 = omega (arith, is) in
    read ∙ (ap (λ n. take n body) (length-take-le k (zeros 17) few ∙ is) ∙ take-upto m 17 body size)

pub room-size : (n : ℕ) → n ≤ 36 → length (take n (zeros 36)) ≡ n
room-size n few = length-take-le n (zeros 36) few
