-- The lines of a stream that comes in pieces. Offsets are counted in bytes from the stream's beginning.
use Rattle.std.specs.Prelude.{ℕ, ◌-◌, Bool, not, ◌&&◌, List, [], ◌∷◌, ◌++◌, length, map, filter, fold, nat_eq, nat_lt, if◌then◌else◌}
use Rattle.std.specs.List.{starts_with, ends_with}
use Rattle.dump_io.specs.Lines.{lf, equals_sign, raw_lines, lines, is_header, Header, header_of}

-- whether a raw line has its LF
abbrev pub has_lf : List ℕ → Bool
has_lf raw = ends_with nat_eq raw (lf ∷ [])

-- whether a raw line begins with an equals sign
abbrev pub begins_with_equals : List ℕ → Bool
begins_with_equals raw = starts_with nat_eq raw (equals_sign ∷ [])

-- how many bytes of a raw line stand before its LF, or before its end if it has none
abbrev pub length_before_lf : List ℕ → ℕ
length_before_lf raw = if has_lf raw then length raw - 1 else length raw

-- whether a raw line begins with an equals sign and has more than `limit` bytes before its LF or the end
abbrev pub is_too_long : ℕ → List ℕ → Bool
is_too_long limit raw = begins_with_equals raw && nat_lt limit (length_before_lf raw)

-- where the lines that are too long begin, in order
abbrev pub too_long : ℕ → List ℕ → List ℕ
too_long limit bytes = map (λ line. line.at) (filter (λ line. is_too_long limit line.raw) (lines bytes))

-- the headers whose lines have their LF, in order
abbrev pub ended_headers : List ℕ → List Header
ended_headers bytes = map header_of (filter (λ line. is_header line.raw && has_lf line.raw) (lines bytes))

-- the headers whose lines lack their LF: the last line, if it is one
abbrev pub open_headers : List ℕ → List Header
open_headers bytes = map header_of (filter (λ line. is_header line.raw && not (has_lf line.raw)) (lines bytes))

-- the headers whose LF is in the piece that follows the stream, with their offsets in both together
abbrev pub new_headers : List ℕ → List ℕ → List Header
new_headers stream piece = filter (λ header. nat_lt (length stream) header.body) (ended_headers (stream ++ piece))

-- the headers that begin before an offset
abbrev pub headers_before : ℕ → List Header → List Header
headers_before at hs = filter (λ header. nat_lt header.at at) hs

-- the last raw line: it has its LF, or there is no line; or it lacks its LF and begins with a byte
-- other than an equals sign; or it lacks its LF and begins with an equals sign, and these are its bytes
pub data LastLine : Type 0 where
  ended : LastLine
  plain : LastLine
  header : List ℕ → LastLine

-- what a raw line is if it is the last
abbrev pub line_kind : List ℕ → LastLine
line_kind raw = if has_lf raw then ended else (if begins_with_equals raw then header raw else plain)

-- the last raw line of the bytes
abbrev pub last_line : List ℕ → LastLine
last_line bytes = fold (λ _ raw. line_kind raw) ended (raw_lines bytes)
