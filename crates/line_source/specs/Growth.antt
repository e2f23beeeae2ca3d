-- What more bytes bring to a stream.
use Rattle.std.specs.Prelude.{◌≡◌, ◌<◌, ℕ, List, ◌++◌, All}
use Rattle.line_source.specs.Streams.{too_long, ended_headers}

-- the lines that are too long stay, and further ones begin after each header that has its LF
pub record TooLongGrows (limit : ℕ) (stream more : List ℕ) : Type 0 where
  pub later : List ℕ
  pub all : too_long limit (stream ++ more) ≡ too_long limit stream ++ later
  pub behind : All (λ header. All (λ at. header.at < at) later) (ended_headers stream)
