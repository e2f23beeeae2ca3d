-- The lines of a body as texts. Offsets are counted in bytes of the body, from 0.
use Rattle.std.specs.Prelude.{◌≡◌, ℕ, ◌+◌, ◌≤◌, List, length, map, slice_range}
use Rattle.dump_io.specs.Lines.{Line, lines_from, raw_lines, text_of}

-- a line's text, and the number of bytes before the line
pub record TextLine : Type 0 where
  pub at : ℕ
  pub text : List ℕ

-- a line without its LF, and without one CR directly before that
abbrev pub text_line : Line → TextLine
text_line line = record { at = line.at; text = text_of line.raw }

-- the lines of bytes, the first of which is at this offset
abbrev pub text_lines_from : ℕ → List ℕ → List TextLine
text_lines_from at bytes = map text_line (lines_from at (raw_lines bytes))

-- the lines of a body
abbrev pub text_lines : List ℕ → List TextLine
text_lines body = text_lines_from 0 body

-- the line's text stands in the body after as many bytes as are before the line
pub record IsPart (body : List ℕ) (line : TextLine) : Type 0 where
  pub within : line.at + length line.text ≤ length body
  pub stands : slice_range body line.at (line.at + length line.text) ≡ line.text
