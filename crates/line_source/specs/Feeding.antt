-- What becomes of a piece of the stream.
use Rattle.std.specs.Prelude.{◌≡◌, ℕ, List, ◌∷◌, ◌++◌, length, Option, None, Some, Result, Err, slice_get}
use Rattle.dump_io.specs.Lines.{Header}
use Rattle.line_source.specs.declared.header_sink.HeaderStop.{HeaderStop}
use Rattle.line_source.specs.declared.header_sink.RefusedHeader.{RefusedHeader}
use Rattle.line_source.specs.declared.scan_fault.ScanFault.{ScanFault}
use Rattle.line_source.specs.declared.scan_fault.ScanFault.TheVariants.{Stop}
use Rattle.line_source.specs.Streams.{too_long}

-- where the first line that is too long begins
abbrev pub first_too_long : ℕ → List ℕ → Option ℕ
first_too_long limit bytes = slice_get (too_long limit bytes) 0

-- the receiver's refusal that a result passes on
abbrev pub stop_of : {T : Type 0} → Result T ScanFault → Option HeaderStop
stop_of (Err (Stop value)) = Some value
stop_of _ = None

-- the headers up to the refused one were heard, and that is the next
pub record StopsAmong (before after : List Header) (refused : RefusedHeader) (hs : List Header) : Type 0 where
  pub heard : List Header
  pub next : Header
  pub more : List Header
  pub parts : hs ≡ heard ++ next ∷ more
  pub grown : after ≡ before ++ heard
  pub at : refused.at ≡ next.at
  pub size : refused.size ≡ length next.text
