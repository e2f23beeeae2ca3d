-- The bytes that have come of the last line of the stream.
use Rattle.std.specs.Prelude.{ℕ, Bool, true, false, List, []}
use Rattle.line_source.specs.Streams.{LastLine, header}

-- the bytes of a header line that have come
abbrev pub header_bytes : LastLine → List ℕ
header_bytes (header bytes) = bytes
header_bytes _ = []

-- whether the last line is a header line and lacks its LF
abbrev pub is_header_line : LastLine → Bool
is_header_line (header bytes) = true
is_header_line _ = false
