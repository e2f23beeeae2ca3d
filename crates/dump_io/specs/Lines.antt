-- The lines of a dump and its headers. Offsets are counted in bytes from 0.
use Rattle.std.specs.Prelude.{◌≡◌, ◌≢◌, ℕ, ◌+◌, ◌-◌, ◌<◌, ◌==◌, Bool, List, [], ◌∷◌, length, take, map, filter, nat_eq, slice_index, codes, All, if◌then◌else◌}
use Rattle.std.specs.List.{concat, starts_with, ends_with}
use Rattle.dump_io.specs.Letters.{letter}

-- the byte LF; lines and headers are recognized by it, CR and `=`
abbrev pub lf : ℕ
lf = 10

-- the byte CR
abbrev pub cr : ℕ
cr = 13

-- the byte `=`
abbrev pub equals_sign : ℕ
equals_sign = letter (codes "=")

-- LF stands only as the last byte of the line
abbrev pub HasLfLast : List ℕ → Type 0
HasLfLast line = All (λ c. c ≢ lf) (take (length line - 1) line)

-- the line ends in LF
abbrev pub IsEnded : List ℕ → Type 0
IsEnded line = slice_index line (length line - 1) ≡ lf

-- the rule of lines: together they are the bytes, none is empty, LF
-- stands only at the end of a line, and only the last line may lack it
pub record AreLines (bytes : List ℕ) (lines : List (List ℕ)) : Type 0 where
  pub together : concat lines ≡ bytes
  pub some : All (λ line. 0 < length line) lines
  pub lf_last : All HasLfLast lines
  pub ended : All IsEnded (take (length lines - 1) lines)

-- lines with one more byte at the front of the first
abbrev pub lines_after : ℕ → List (List ℕ) → List (List ℕ)
lines_after c [] = (c ∷ []) ∷ []
lines_after c (line ∷ lines) = (c ∷ line) ∷ lines

-- the only list that satisfies that rule: each raw line ends after its LF, and the last may lack it
abbrev pub raw_lines : List ℕ → List (List ℕ)
raw_lines [] = []
raw_lines (c ∷ bytes) = if c == lf then (c ∷ []) ∷ raw_lines bytes else lines_after c (raw_lines bytes)

-- the text of a raw line: without its LF, and without one CR directly before that LF
abbrev pub text_of : List ℕ → List ℕ
text_of raw =
    if ends_with nat_eq raw (cr ∷ lf ∷ []) then take (length raw - 2) raw
    else (if ends_with nat_eq raw (lf ∷ []) then take (length raw - 1) raw else raw)

-- a raw line and the number of bytes before it
pub record Line : Type 0 where
  pub at : ℕ
  pub raw : List ℕ

-- raw lines with their offsets, the first at this one
abbrev pub lines_from : ℕ → List (List ℕ) → List Line
lines_from at [] = []
lines_from at (raw ∷ raws) = record { at = at; raw = raw } ∷ lines_from (at + length raw) raws

-- the lines of the bytes
abbrev pub lines : List ℕ → List Line
lines bytes = lines_from 0 (raw_lines bytes)

-- a header is a line whose text begins with an equals sign
abbrev pub is_header : List ℕ → Bool
is_header raw = starts_with nat_eq (text_of raw) (equals_sign ∷ [])

-- a header: where its line begins, where its raw line ends, and its text
pub record Header : Type 0 where
  pub at : ℕ
  pub body : ℕ
  pub text : List ℕ

-- the header that a line is: its text, and where its raw line begins and ends
abbrev pub header_of : Line → Header
header_of line = record { at = line.at; body = line.at + length line.raw; text = text_of line.raw }

-- the headers of the bytes, in order
abbrev pub headers : List ℕ → List Header
headers bytes = map header_of (filter (λ line. is_header line.raw) (lines bytes))
