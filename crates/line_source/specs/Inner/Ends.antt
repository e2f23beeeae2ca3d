-- Why a part of a piece ends the stream.
use Rattle.std.specs.Prelude.{◌≡◌, ℕ, ◌<◌, List, ◌++◌, All, Option, Some}
use Rattle.dump_io.specs.Lines.{Header}
use Rattle.line_source.specs.declared.header_sink.RefusedHeader.{RefusedHeader}
use Rattle.line_source.specs.declared.scan_fault.ScanFault.{ScanFault}
use Rattle.line_source.specs.declared.scan_fault.ScanFault.TheVariants.{HeaderTooLong, Stop}
use Rattle.line_source.specs.Feeding.{first_too_long, StopsAmong}
use Rattle.line_source.specs.Streams.{too_long, new_headers, headers_before}

-- a line is too long, and the headers before it were heard
pub record EndsTooLong (limit : ℕ) (stream piece : List ℕ) (before after : List Header) (at : ℕ) : Type 0 where
  pub first : first_too_long limit (stream ++ piece) ≡ Some at
  pub heard : after ≡ before ++ headers_before at (new_headers stream piece)

-- a header was refused, and the lines that are too long begin only after it
pub record EndsRefused (limit : ℕ) (stream piece : List ℕ) (before after : List Header) (stop : Option RefusedHeader) : Type 0 where
  pub refused : RefusedHeader
  pub kept : stop ≡ Some refused
  pub among : StopsAmong before after refused (new_headers stream piece)
  pub short : All (λ at. refused.at < at) (too_long limit (stream ++ piece))

-- the piece after the stream ends it in one of these ways: with
-- a line that is too long, or with a header that was refused
abbrev pub Ends : ℕ → List ℕ → List ℕ → List Header → List Header → Option RefusedHeader → ScanFault → Type 0
Ends limit stream piece before after stop (HeaderTooLong at) = EndsTooLong limit stream piece before after at
Ends limit stream piece before after stop (Stop value) = EndsRefused limit stream piece before after stop
