-- The lines of a heap's body that refer to binaries.
use Rattle.std.specs.Prelude.{◌≡◌, ℕ, ◌-◌, ◌<◌, Bool, List, [], ◌∷◌, ◌++◌, codes, Option, slice_index, if◌then◌else◌}
use Rattle.std.specs.List.{filter_map}
use Rattle.std.specs.Option.{option_and_then, option_map}
use Rattle.memchr.specs.Find.{OccursAt}
use Rattle.dump_io.specs.Letters.{letter}
use Rattle.dump_io.specs.Lines.{raw_lines, text_of}
use Rattle.binary_payloads.specs.declared.enc.Enc.{Enc}
use Rattle.term_forms.specs.ReadingForms.{form_of, range_of}
use Rattle.term_forms.specs.Words.{led_of}
use Rattle.binary_holders.specs.HeapReferences.{reference, referred}
use Rattle.binary_holders.specs.declared.texts.Reference.{Reference}

-- the reference of a text, if it is a heap line whose form is one
abbrev pub text_reference : Enc → List ℕ → Option Reference
text_reference enc text = option_and_then (λ led. referred led.0 (form_of enc led.1)) (led_of text)

-- the reference of a raw line, if it is a heap line whose form is one
abbrev pub line_reference : Enc → List ℕ → Option Reference
line_reference enc raw = text_reference enc (text_of raw)

-- the references of the lines of bytes, line by line
abbrev pub line_references : Enc → List ℕ → List Reference
line_references enc bytes = filter_map (line_reference enc) (raw_lines bytes)

-- the byte before a place is `:`
abbrev pub IsMarked : List ℕ → ℕ → Type 0
IsMarked bytes place = (0 < place) × (slice_index bytes (place - 1) ≡ letter (codes ":"))

-- the mark of a whole binary, or of a part of one: what follows the address in a line that refers to it
abbrev pub mark : Bool → List ℕ
mark whole = codes ":Y" ++ (if whole then letter (codes "c") else letter (codes "s")) ∷ []

-- the mark of a whole binary or that of a part of one stands at a place
abbrev pub IsReferenceMark : List ℕ → ℕ → Type 0
IsReferenceMark bytes k = (whole : Bool) × OccursAt bytes (mark whole) k

-- the reference of the line with an address to a range: the range's own address, for a whole binary or for a part
abbrev pub range_reference : ℕ → Bool → List ℕ → Option Reference
range_reference address whole range = option_map (λ parts. reference address whole parts.0) (range_of range)
