-- Payloads: the characters that write the bytes of a binary.
use Rattle.std.specs.Prelude.{◌≡◌, ℕ, ◌+◌, ◌*◌, ◌/◌, ◌||◌, Bool, List, length, codes, nat_eq, nat_lt}
use Rattle.std.specs.List.{list_any}
use Rattle.std.specs.Char.{digit_value, is_ascii_alphanumeric}
use Rattle.std.specs.Str.{str_to_ascii_uppercase}
use Rattle.hex.specs.Hex.{encode_upper}
use Rattle.base64.specs.Engines.{standard}
use Rattle.base64.specs.GeneralPurpose.{encode_of, IsBytes}
use Rattle.binary_payloads.specs.declared.enc.Enc.{Enc}
use Rattle.binary_payloads.specs.declared.enc.Enc.TheVariants.{Hex, Base64}

-- base64 by RFC 4648 in the alphabet of `STANDARD`, with padding and with zero for the unused bits
unfoldable pub base64_of : List ℕ → List ℕ
base64_of bytes = encode_of standard bytes

-- the characters that write the bytes; in hex two digits for each byte, the high one first
abbrev pub encoding : Enc → List ℕ → List ℕ
encoding Hex bytes = encode_upper bytes
encoding Base64 bytes = base64_of bytes

-- the characters in the case that `encoding` uses: hex digits may be of either
abbrev pub in_one_case : Enc → List ℕ → List ℕ
in_one_case Hex chars = str_to_ascii_uppercase chars
in_one_case Base64 chars = chars

-- the characters are the payload of these bytes
pub record IsPayload (enc : Enc) (chars bytes : List ℕ) : Type 0 where
  pub are_bytes : IsBytes bytes
  pub written : in_one_case enc chars ≡ encoding enc bytes

-- the characters are the payload of this many bytes
pub record IsPayloadOf (enc : Enc) (chars : List ℕ) (size : ℕ) : Type 0 where
  pub bytes : List ℕ
  pub count : length bytes ≡ size
  pub payload : IsPayload enc chars bytes

-- how many bytes are written together: one in hex, by two digits, and three in base64, by four characters
abbrev pub group_of : Enc → ℕ
group_of Hex = 1
group_of Base64 = 3

-- whether the character may write a part of a byte: a hex digit of either case; in base64 a letter, a digit, `+` or `/`
abbrev pub is_digit_of : Enc → ℕ → Bool
is_digit_of Hex c = nat_lt (digit_value c) 16
is_digit_of Base64 c = is_ascii_alphanumeric c || list_any (nat_eq c) (codes "+/")

-- how many characters write this many bytes: in base64 four for each group of three, and for a part of one
abbrev pub chars_of : Enc → ℕ → ℕ
chars_of Hex size = 2 * size
chars_of Base64 size = 4 * ((size + 2) / 3)
