-- A payload made blank is a payload of the same number of bytes, and its line a heap line with a heap binary.
use Rattle.std.specs.Prelude.{◌≡◌, ℕ, List, map, Some}
use Rattle.dump_io.specs.Lines.{text_of}
use Rattle.binary_payloads.specs.declared.enc.Enc.{Enc}
use Rattle.term_forms.specs.Forms.{HeapBin}
use Rattle.binary_payloads.specs.Payload.{IsPayloadOf}
use Rattle.term_forms.specs.ReadingForms.{form_of}
use Rattle.term_forms.specs.Words.{led_of}
use Rattle.dump_redact.specs.declared.parts.Part.TheVariants.{Heap}
use Rattle.dump_redact.specs.Redacted.{blank, blanked_line}

-- characters made blank write as many bytes as before
abbrev pub KeepsPayloads : Enc → Type 0
KeepsPayloads enc = (chars : List ℕ) (size : ℕ) → IsPayloadOf enc chars size → IsPayloadOf enc (map (blank enc) chars) size

-- a heap line whose form is a heap binary has the same address when it is
-- redacted, and such a form of the same size, with its characters made blank
abbrev pub KeepsBinaries : Enc → Type 0
KeepsBinaries enc = (raw : List ℕ) (address size : ℕ) (spelled chars : List ℕ)
    → led_of (text_of raw) ≡ Some (address, spelled) → form_of enc spelled ≡ Some (HeapBin size chars)
    → (again : List ℕ) × (led_of (text_of (blanked_line enc Heap raw)) ≡ Some (address, again))
    × (form_of enc again ≡ Some (HeapBin size (map (blank enc) chars)))
