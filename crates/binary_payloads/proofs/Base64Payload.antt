-- What `decode_slice` answers, against the payload in base64.
use Rattle.std.proofs.Common.{◌≡◌, ℕ, ◌+◌, ◌*◌, ◌/◌, ◌≤◌, nat_lt, Bool, true, false, List, length, if◌then◌else◌, refl, sym, ◌∙◌, ap, arith, length-append, drop, ◌++◌, append-nil}
use Rattle.std.proofs.lemmas.List.{drop_all}
use Rattle.base64.proofs.EngineFacts.{decode_of_strict, decode_of-encode_of}
use Rattle.std.proofs.lemmas.Bool.{le-ltb}
use Rattle.std.specs.declared.option.Option.{Option}
use Rattle.std.specs.declared.option.Option.TheVariants.{None, Some}
use Rattle.std.specs.declared.result.Result.{Result}
use Rattle.std.specs.declared.result.Result.TheVariants.{Ok, Err}
use Rattle.base64.specs.declared.decode.DecodeError.{DecodeError}
use Rattle.base64.specs.declared.decode.DecodeSliceError.{DecodeSliceError}
use Rattle.base64.specs.declared.decode.DecodeSliceError.TheVariants.{OutputSliceTooSmall}
use Rattle.base64.specs.declared.engine.general_purpose.GeneralPurpose.{GeneralPurpose}
use Rattle.base64.specs.Decode.{or_error, or_else, lone_error, groups_error, groups_bytes, groups_before_last, suffix_error, suffix_bytes, bytes_fit, decode_outcome}
use Rattle.base64.specs.GeneralPurpose.{decode_of, decoded_bytes_of, decode_slice_of, encode_of, IsBytes, IsStrict, IsConsistent}
use Rattle.base64.proofs.Decoding.{length-groups_bytes}
use Rattle.base64.specs.Engines.{standard}
use Rattle.binary_payloads.specs.declared.enc.Enc.TheVariants.{Base64}
use Rattle.binary_payloads.specs.Payload.{IsPayload, IsPayloadOf, base64_of}
use Rattle.binary_payloads.proofs.HexDigits.{ok-same}

or_error_parts : (x : Option DecodeError) (r : Result ℕ DecodeSliceError) (n : ℕ) → or_error x r ≡ Ok n → (x ≡ None) × (r ≡ Ok n)
or_error_parts None r n h = (refl, h)
or_error_parts (Some e) r n h = cc h

choice_parts : (b : Bool) (r : Result ℕ DecodeSliceError) (n : ℕ) → (if b then Err OutputSliceTooSmall else r) ≡ Ok n → (b ≡ false) × (r ≡ Ok n)
choice_parts true r n h = cc h
choice_parts false r n h = (refl, h)

or_else_parts : (a b : Option DecodeError) → or_else a b ≡ None → (a ≡ None) × (b ≡ None)
or_else_parts None b h = (refl, h)
or_else_parts (Some e) b h = cc h

outcome_parts : (x : Option DecodeError) (d b : List ℕ) → decode_outcome x d ≡ Ok b → (x ≡ None) × (d ≡ b)
outcome_parts None d b h = (refl, cc h)
outcome_parts (Some e) d b h = cc h

abbrev lone_of : GeneralPurpose → List ℕ → Option DecodeError
lone_of e s = lone_error e.decode_table e.padding.value s

abbrev rest_of : GeneralPurpose → List ℕ → Option DecodeError
rest_of e s =
    let q = groups_before_last (length s) in
    or_else (groups_error e.decode_table s q)
    (suffix_error e.decode_table e.padding.value e.config.decode_allow_trailing_bits e.config.decode_padding_mode (4 * q) s)

abbrev size_answer : GeneralPurpose → List ℕ → ℕ → Result ℕ DecodeSliceError
size_answer e s room = bytes_fit (length (decoded_bytes_of e s)) room

abbrev rest_answer : GeneralPurpose → List ℕ → ℕ → Result ℕ DecodeSliceError
rest_answer e s room = or_error (rest_of e s) (size_answer e s room)

abbrev room_answer : GeneralPurpose → List ℕ → ℕ → Result ℕ DecodeSliceError
room_answer e s room = if nat_lt (room / 3) (groups_before_last (length s)) then Err OutputSliceTooSmall else rest_answer e s room

-- `decode_slice` that answers n wrote the n bytes that the input decodes to
slice_ok : (e : GeneralPurpose) (s : List ℕ) (room n : ℕ) → decode_slice_of e s room ≡ Ok n
    → (decode_of e s ≡ Ok (decoded_bytes_of e s)) × (length (decoded_bytes_of e s) ≡ n)
slice_ok e s room n h =
    let first = or_error_parts (lone_of e s) (room_answer e s room) n h in
    let second = choice_parts (nat_lt (room / 3) (groups_before_last (length s))) (rest_answer e s room) n first.1 in
    let third = or_error_parts (rest_of e s) (size_answer e s room) n second.1 in
    let fourth = choice_parts (nat_lt room (length (decoded_bytes_of e s))) (Ok (length (decoded_bytes_of e s))) n third.1 in
    let errors : or_else (lone_of e s) (rest_of e s) ≡ None = rw first.0 third.0 in
    (ap (λ x. decode_outcome x (decoded_bytes_of e s)) errors, ok-same (length (decoded_bytes_of e s)) n fourth.1)

-- `decode_slice` into room for all bytes answers their number
slice_room : (e : GeneralPurpose) (s b : List ℕ) (room : ℕ) → decode_of e s ≡ Ok b → length b ≤ room → decode_slice_of e s room ≡ Ok (length b)
slice_room e s b room h fits =
    let parts = outcome_parts (or_else (lone_of e s) (rest_of e s)) (decoded_bytes_of e s) b h in
    let lone = or_else_parts (lone_of e s) (rest_of e s) parts.0 in
    let q : ℕ = groups_before_last (length s) in
    let len : length (decoded_bytes_of e s) ≡ length b = ap length parts.1 in
    let split : length (decoded_bytes_of e s) ≡ length (groups_bytes e.decode_table s q) + length (suffix_bytes e.decode_table e.padding.value (4 * q) s) =
    length-append (groups_bytes e.decode_table s q) (suffix_bytes e.decode_table e.padding.value (4 * q) s) in
    let groups : q ≤ room / 3 = omega (arith, split, len, length-groups_bytes e.decode_table s q) in
    let sized : size_answer e s room ≡ Ok (length b) = rw (len, le-ltb room (length b) fits) refl in
    let rested : rest_answer e s room ≡ Ok (length b) = ap (λ x. or_error x (size_answer e s room)) lone.1 ∙ sized in
    let roomy : room_answer e s room ≡ Ok (length b) = rw (le-ltb (room / 3) q groups) rested in
    ap (λ x. or_error x (room_answer e s room)) lone.0 ∙ roomy

payload_yes : (e : GeneralPurpose) (s old new : List ℕ) (n : ℕ) → IsStrict e → IsBytes s → decode_slice_of e s (length old) ≡ Ok n
    → new ≡ decoded_bytes_of e s ++ drop (length (decoded_bytes_of e s)) old → length new ≡ length old → n ≡ length new → s ≡ encode_of e new
payload_yes e s old new n strict bytes answer written same all =
    let ok = slice_ok e s (length old) n answer in
    let d : List ℕ = decoded_bytes_of e s in
    let past : length old ≤ length d = omega (arith, ok.1, same, all) in
    let whole : new ≡ d = written ∙ ap (λ r. d ++ r) (drop_all (length d) old past) ∙ append-nil d in
    decode_of_strict e s d strict bytes ok.0 ∙ ap (λ x. encode_of e x) (sym whole)

payload_no : (e : GeneralPurpose) (s b : List ℕ) (room : ℕ) → IsConsistent e → IsBytes b → length b ≡ room → s ≡ encode_of e b
    → decode_slice_of e s room ≡ Ok room
payload_no e s b room consistent bytes len is =
    let decoded : decode_of e s ≡ Ok b = ap (λ x. decode_of e x) is ∙ decode_of-encode_of e b consistent bytes in
    slice_room e s b room decoded (omega (arith, len)) ∙ ap Ok len

-- ---- for `STANDARD`

pub base64_yes : (s old new : List ℕ) (n : ℕ) → IsBytes s → IsBytes new → decode_slice_of standard s (length old) ≡ Ok n
    → new ≡ decoded_bytes_of standard s ++ drop (length (decoded_bytes_of standard s)) old → length new ≡ length old → n ≡ length new
    → IsPayload Base64 s new
unfolding base64_of
base64_yes s old new n bytes made answer written same all =
    record { are_bytes = made; written = payload_yes standard s old new n (refl, refl) bytes answer written same all }

pub base64_found : (s : List ℕ) (room : ℕ) → IsPayloadOf Base64 s room → decode_slice_of standard s room ≡ Ok room
unfolding base64_of
base64_found s room is = payload_no standard s is.bytes room refl is.payload.are_bytes is.count is.payload.written
