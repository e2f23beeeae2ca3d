-- What a dump is with its binary payloads made zero: line
-- by line, each by the part of the dump in which it stands.
use Rattle.std.specs.Prelude.{ℕ, ◌-◌, Bool, ◌||◌, List, [], ◌∷◌, ◌++◌, length, take, drop, map, codes, Option, None, Some, option_and_then, option_map, if◌then◌else◌}
use Rattle.std.specs.List.{concat}
use Rattle.std.specs.Str.{bytes_eq}
use Rattle.dump_io.specs.Letters.{letter}
use Rattle.dump_io.specs.Lines.{raw_lines, text_of, is_header}
use Rattle.dump_sections.specs.Index.{index_of}
use Rattle.dump_sections.specs.Sections.{tag_of}
use Rattle.binary_payloads.specs.declared.enc.Enc.{Enc}
use Rattle.binary_payloads.specs.declared.enc.Enc.TheVariants.{Hex, Base64}
use Rattle.binary_payloads.specs.Payload.{is_digit_of}
use Rattle.term_forms.specs.Forms.{HeapForm, HeapBin}
use Rattle.term_forms.specs.ReadingForms.{form_of}
use Rattle.term_forms.specs.Words.{led_of}
use Rattle.heap_cells.specs.Loading.{enc_of}
use Rattle.dump_redact.specs.declared.parts.Part.{Part}
use Rattle.dump_redact.specs.declared.parts.Part.TheVariants.{Heap, Binary, Other}

-- the character that writes zero
abbrev pub zero_of : Enc → ℕ
zero_of Hex = letter (codes "0")
zero_of Base64 = letter (codes "A")

-- a character that may write a part of a byte becomes zero, and any other stays, such as LF, CR, `=` and `:`
abbrev pub blank : Enc → ℕ → ℕ
blank enc c = if is_digit_of enc c then zero_of enc else c

-- the bytes with all from this place on made blank
abbrev pub blank_from : Enc → ℕ → List ℕ → List ℕ
blank_from enc at bytes = take at bytes ++ map (blank enc) (drop at bytes)

-- whether a header with this tag begins a heap or literals
abbrev pub is_heap_tag : List ℕ → Bool
is_heap_tag tag = bytes_eq tag (codes "proc_heap") || bytes_eq tag (codes "literals")

-- the part that a header with this tag begins
abbrev pub part_of : List ℕ → Part
part_of tag = if is_heap_tag tag then Heap else (if bytes_eq tag (codes "binary") then Binary else Other)

-- the part after a line that is no header: a heap goes on, and of a binary only the first line counts
abbrev pub later : Part → Part
later Heap = Heap
later part = Other

-- the part in which the line after this one stands
abbrev pub next_part : Part → List ℕ → Part
next_part part raw = if is_header raw then part_of (tag_of (text_of raw)) else later part

-- the characters of the payload, if the form is a heap binary
abbrev pub bin_chars : Option HeapForm → Option (List ℕ)
bin_chars (Some (HeapBin size chars)) = Some chars
bin_chars other = None

-- the end of a line's text that is made blank: the payload of a heap line whose form is a heap binary;
-- and after the header of a binary, what follows a number and its colon, whether that is a payload or not
abbrev pub payload_in : Enc → Part → List ℕ → Option (List ℕ)
payload_in enc Heap text = option_and_then (λ led. bin_chars (form_of enc led.1)) (led_of text)
payload_in enc Binary text = option_map (λ led. led.1) (led_of text)
payload_in enc Other text = None

-- a raw line whose text ends in a payload, with that made
-- blank; the CR and LF that the line has beyond its text stay
abbrev pub without : Enc → List ℕ → Option (List ℕ) → List ℕ
without enc raw None = raw
without enc raw (Some chars) = blank_from enc (length (text_of raw) - length chars) raw

-- a raw line in this part with its payload made blank
abbrev pub blanked_line : Enc → Part → List ℕ → List ℕ
blanked_line enc part raw = without enc raw (payload_in enc part (text_of raw))

-- a header stays
abbrev pub redacted_line : Enc → Part → List ℕ → List ℕ
redacted_line enc part raw = if is_header raw then raw else blanked_line enc part raw

-- raw lines, the first of which stands in this part
abbrev pub redacted_lines : Enc → Part → List (List ℕ) → List (List ℕ)
redacted_lines enc part [] = []
redacted_lines enc part (raw ∷ raws) = redacted_line enc part raw ∷ redacted_lines enc (next_part part raw) raws

-- bytes that begin a line, in this part
abbrev pub redacted_in : Enc → Part → List ℕ → List ℕ
redacted_in enc part bytes = concat (redacted_lines enc part (raw_lines bytes))

-- a dump with its binary payloads made zero
abbrev pub redacted : List ℕ → List ℕ
redacted bytes = redacted_in (enc_of (index_of bytes).version) Other bytes
