-- What a scan knows of the stream that has come.
use Rattle.std.specs.Prelude.{◌≡◌, ℕ, Bool, List, [], length}
use Rattle.line_source.specs.Streams.{LastLine, last_line, too_long}

-- the most bytes that a scan keeps of a line that begins with an equals sign
abbrev pub most_kept : ℕ
most_kept = 4096

-- a scan of a stream
pub record Scan : Type 0 where
  -- the most bytes that a line that begins with an equals sign may have before its LF
  pub limit : ℕ
  -- how many bytes have come
  pub offset : ℕ
  pub last : LastLine
  -- whether the stream is over
  pub spent : Bool

-- the scan stands for this stream
pub record StandsFor (scan : Scan) (stream : List ℕ) : Type 0 where
  pub offset : scan.offset ≡ length stream
  pub last : scan.last ≡ last_line stream
  pub short : too_long scan.limit stream ≡ []
