-- The definitions of lines, headers and numbers at worked examples, which the checker computes.
use Rattle.std.proofs.Common.{◌≡◌, ◌-◌, ◌^◌, true, [], ◌∷◌, None, Some, map, refl}
use Rattle.std.specs.Prelude.{codes}
use Rattle.std.specs.Fmt.{digits}
use Rattle.dump_io.specs.Lines.{lines, text_of, headers}
use Rattle.dump_io.specs.Numbers.{dec_number, hex_number}

-- no bytes have no line
no_line : lines [] ≡ []
no_line = refl

-- the first line ends in CR LF, the second is an LF alone, and the last lacks its LF
four_lines : lines (codes "=a\r\n\nx\n=b:c")
    ≡ record { at = 0; raw = codes "=a\r\n" } ∷ record { at = 4; raw = codes "\n" } ∷ record { at = 5; raw = codes "x\n" } ∷ record { at = 7; raw = codes "=b:c" } ∷ []
four_lines = refl

two_headers : headers (codes "=a\r\n\nx\n=b:c")
    ≡ record { at = 0; body = 4; text = codes "=a" } ∷ record { at = 7; body = 11; text = codes "=b:c" } ∷ []
two_headers = refl

-- a CR stands in the text where it isn't directly before the LF: twice, inside, and at the end of a line without LF
kept_cr : map text_of (codes "a\r\r\n" ∷ codes "\rb\n" ∷ codes "\r\n" ∷ codes "c\r" ∷ []) ≡ codes "a\r" ∷ codes "\rb" ∷ [] ∷ codes "c\r" ∷ []
kept_cr = refl

-- an equals sign behind a CR is inside its line
inner_sign : headers (codes "a\r=b\n=c\r") ≡ record { at = 5; body = 8; text = codes "=c\r" } ∷ []
inner_sign = refl

-- decimal numbers: the greatest, the one above it, leading zeros up to 20 digits, and texts that are none
dec_numbers : map dec_number (codes "18446744073709551615" ∷ codes "18446744073709551616" ∷ codes "00000000000000000007" ∷ codes "000000000000000000007" ∷ codes "" ∷ codes "+1" ∷ codes " 1" ∷ codes "1a" ∷ [])
    ≡ Some (2 ^ 64 - 1) ∷ None ∷ Some 7 ∷ None ∷ None ∷ None ∷ None ∷ None ∷ []
dec_numbers = refl

-- hex numbers: the greatest, one of 17 digits, both cases, and texts that are none
hex_numbers : map hex_number (codes "FFFFFFFFFFFFFFFF" ∷ codes "00000000000000001" ∷ codes "0000000000000001" ∷ codes "aF09" ∷ codes "" ∷ codes "g" ∷ codes "-1" ∷ codes "0x1" ∷ codes "@" ∷ codes "`" ∷ codes "/" ∷ codes ":" ∷ [])
    ≡ Some (2 ^ 64 - 1) ∷ None ∷ Some 1 ∷ Some 44809 ∷ None ∷ None ∷ None ∷ None ∷ None ∷ None ∷ None ∷ None ∷ []
hex_numbers = refl

-- numbers are written without leading zeros, in hex in upper case
written_numbers : map (digits 16 true) (0 ∷ 10 ∷ 43785 ∷ (2 ^ 64 - 1) ∷ []) ≡ codes "0" ∷ codes "A" ∷ codes "AB09" ∷ codes "FFFFFFFFFFFFFFFF" ∷ []
unfolding digits
written_numbers = refl
