-- The first line of some bytes, its text with the end of a line, and the cell of a text.
use Rattle.std.specs.Prelude.{ℕ, List, [], ◌∷◌, ◌++◌, slice_get, unwrap_or, Option}
use Rattle.std.specs.Option.{option_map}
use Rattle.dump_io.specs.Lines.{cr, lf, raw_lines}
use Rattle.binary_payloads.specs.declared.enc.Enc.{Enc}
use Rattle.term_forms.specs.Words.{led_of}
use Rattle.heap_cells.specs.Cells.{Cell, spelled_cell}

-- the first raw line of some bytes, or nothing
abbrev pub first_raw : List ℕ → List ℕ
first_raw bytes = unwrap_or (slice_get (raw_lines bytes) 0) []

-- a text with the end of a line, of which it is the whole text whatever its last byte is
abbrev pub ended_text : List ℕ → List ℕ
ended_text text = text ++ cr ∷ lf ∷ []

-- the cell of a text, if that is a heap line
abbrev pub text_cell : Enc → List ℕ → Option Cell
text_cell enc text = option_map (spelled_cell enc) (led_of text)
