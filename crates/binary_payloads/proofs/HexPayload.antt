-- What `decode_to_slice` answers, against the payload in hex.
use Rattle.std.proofs.Common.{◌≡◌, ℕ, true, List, length, Result, Ok, Err, refl, sym, ap, ◌∙◌, arith}
use Rattle.std.specs.Prelude.{MatchResult, is_ok}
use Rattle.hex.specs.Hex.{decode_sized}
use Rattle.hex.specs.declared.error.FromHexError.{FromHexError}
use Rattle.hex.proofs.Pairs.{decode_sized-pairs}
use Rattle.hex.proofs.HexLemmas.{decode_pairs-ok, decode_sized-ok}
use Rattle.binary_payloads.specs.declared.enc.Enc.TheVariants.{Hex}
use Rattle.binary_payloads.specs.Payload.{IsPayload, IsPayloadOf}
use Rattle.binary_payloads.proofs.Encodings.{length-payload}
use Rattle.binary_payloads.proofs.HexDigits.{upper-decoded, decode-upper}

-- what the call gives where the digits read as d
abbrev pub Answers : Result (List ℕ) FromHexError → Result Unit FromHexError → List ℕ → Type 0
Answers d r out = MatchResult d (λ bytes. (r ≡ Ok tt) × (out ≡ bytes)) (λ e. r ≡ Err e)

read_as : (d : Result (List ℕ) FromHexError) (r : Result Unit FromHexError) (out : List ℕ) → Answers d r out → is_ok r ≡ true → d ≡ Ok out
read_as (Ok bytes) r out h ok = ap Ok (sym h.1)
read_as (Err e) r out h ok = cc (rw h at ok)

answers_ok : (d : Result (List ℕ) FromHexError) (r : Result Unit FromHexError) (out bytes : List ℕ) → Answers d r out → d ≡ Ok bytes → is_ok r ≡ true
answers_ok (Ok bytes) r out all h e = rw h.0 refl
answers_ok (Err x) r out all h e = cc e

decoded : (s bytes : List ℕ) (n : ℕ) → decode_sized s n ≡ Ok bytes → IsPayload Hex s bytes × (length bytes ≡ n)
decoded s bytes n h =
    let twice = decode_sized-ok s n bytes h in
    let pairs = sym (decode_sized-pairs s n (omega arith) (omega arith)) ∙ h in
    let facts = decode_pairs-ok 0 s bytes pairs in
    (record { are_bytes = facts.2; written = upper-decoded 0 s bytes pairs }, omega (arith, facts.1))

pub hex_yes : (s out : List ℕ) (n : ℕ) (r : Result Unit FromHexError) → Answers (decode_sized s n) r out → is_ok r ≡ true
    → IsPayload Hex s out × (length out ≡ n)
hex_yes s out n r h ok = decoded s out n (read_as (decode_sized s n) r out h ok)

pub hex_found : (s out : List ℕ) (n : ℕ) (r : Result Unit FromHexError) → Answers (decode_sized s n) r out → IsPayloadOf Hex s n → is_ok r ≡ true
hex_found s out n r h is =
    let twice = length-payload Hex s is.bytes is.payload in
    let e = is.count in
    answers_ok (decode_sized s n) r out is.bytes h
    (decode_sized-pairs s n (omega arith) (omega arith) ∙ decode-upper 0 s is.bytes is.payload.are_bytes is.payload.written)
