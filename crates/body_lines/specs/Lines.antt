-- The lines of a body as they are heard. Offsets are those of the dump, in bytes from 0.
use Rattle.std.specs.Prelude.{◌≡◌, ◌≢◌, ℕ, List, [], ◌∷◌, ◌++◌, length, take, map, All}
use Rattle.dump_io.specs.Lines.{Line, lf, lines_from, raw_lines}

-- the lines of bytes, the first of which begins at this offset
abbrev pub lines_at : ℕ → List ℕ → List Line
lines_at at bytes = lines_from at (raw_lines bytes)

-- what is heard of a line that may be cut: its offset, its first bytes, and how many bytes it has
pub record CutLine : Type 0 where
  pub at : ℕ
  pub front : List ℕ
  pub size : ℕ

-- a line of which at most this many bytes are heard
abbrev pub cut : ℕ → Line → CutLine
cut kept line = record { at = line.at; front = take kept line.raw; size = length line.raw }

-- the lines of bytes, each cut to this many of its bytes; the first line begins at this offset
abbrev pub cut_lines : ℕ → ℕ → List ℕ → List CutLine
cut_lines kept at bytes = map (cut kept) (lines_at at bytes)

-- a single line with this offset, these first bytes and this size
abbrev pub one_line : ℕ → List ℕ → ℕ → List CutLine
one_line at front size = record { at = at; front = front; size = size } ∷ []

-- no byte is an LF
abbrev pub HasNoLf : List ℕ → Type 0
HasNoLf bytes = All (λ c. c ≢ lf) bytes

-- the bytes end with the end of a line: whatever follows them, it is no part of their lines
pub record AreWhole (bytes : List ℕ) : Type 0 where
  pub lines : (more : List ℕ) → raw_lines (bytes ++ more) ≡ raw_lines bytes ++ raw_lines more
