-- The bytes of a payload, as a function with which the definitions of the crates above compute. Nobody has to
-- believe it, since it says no more than `Payload` does: the law `payload_bytes_are_read` connects the two.
use Rattle.std.specs.Prelude.{ℕ, nat_lt, Bool, ◌&&◌, List, Option, None, Some, option_and_then, if◌then◌else◌}
use Rattle.std.specs.List.{list_all}
use Rattle.std.specs.Result.{result_ok}
use Rattle.std.specs.Str.{bytes_eq}
use Rattle.hex.specs.Hex.{decode_of}
use Rattle.base64.specs.Engines.{standard}
use Rattle.base64.specs.GeneralPurpose.{decoded_of}
use Rattle.binary_payloads.specs.declared.enc.Enc.{Enc}
use Rattle.binary_payloads.specs.declared.enc.Enc.TheVariants.{Hex, Base64}
use Rattle.binary_payloads.specs.Payload.{encoding, in_one_case}

-- the bytes that base64 characters decode to, if any
unfoldable pub base64_decoded : List ℕ → Option (List ℕ)
base64_decoded chars = decoded_of standard chars

-- the bytes that the characters decode to, if any
abbrev pub decoded : Enc → List ℕ → Option (List ℕ)
decoded Hex chars = result_ok (decode_of chars)
decoded Base64 chars = base64_decoded chars

-- whether the characters are the payload of these bytes
abbrev pub writes : Enc → List ℕ → List ℕ → Bool
writes enc chars bytes = list_all (λ b. nat_lt b 256) bytes && bytes_eq (in_one_case enc chars) (encoding enc bytes)

-- the bytes whose payload the characters are, if any
unfoldable pub payload_bytes : Enc → List ℕ → Option (List ℕ)
payload_bytes enc chars =
    option_and_then (λ bytes. if writes enc chars bytes then Some bytes else None) (decoded enc chars)
