-- The parts of a line with an external term.
use Rattle.std.specs.Prelude.{ℕ, ◌==◌, List, [], ◌∷◌, length, codes, nat_le, Option, None, Some, option_and_then, option_map, if◌then◌else◌}
use Rattle.binary_payloads.specs.ReadingPayloads.{payload_bytes}
use Rattle.binary_payloads.specs.declared.enc.Enc.{Enc}
use Rattle.dump_io.specs.Letters.{letter}
use Rattle.etf_terms.specs.References.{reference_in}
use Rattle.term_forms.specs.Words.{led_of}

-- what stands behind the tag of an external term
abbrev pub behind_tag : List ℕ → Option (List ℕ)
behind_tag [] = None
behind_tag (c ∷ text) = if c == letter (codes "E") then Some text else None

-- the length of an external term, and its characters
abbrev pub external_form : List ℕ → Option (ℕ × List ℕ)
external_form text = option_and_then led_of (behind_tag text)

-- the address of an external term's line, and its length and its characters
abbrev pub external_line : List ℕ → Option (ℕ × ℕ × List ℕ)
external_line text =
    option_and_then (λ led. option_map (λ sized. (led.0, sized.0, sized.1)) (external_form led.1)) (led_of text)

-- the words of the reference that these characters write, if they are the payload of so many bytes
abbrev pub payload_words : Enc → ℕ → List ℕ → Option (List ℕ)
payload_words enc size chars =
    option_and_then (λ bytes. if length bytes == size then reference_in bytes else None) (payload_bytes enc chars)

-- the words of an external term, if it is a reference that is short enough
abbrev pub external_words : Enc → ℕ × List ℕ → Option (List ℕ)
external_words enc sized = if nat_le sized.0 2048 then payload_words enc sized.0 sized.1 else None
