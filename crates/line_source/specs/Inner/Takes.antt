-- What a scan does with the rest of a piece.
use Rattle.std.specs.Prelude.{◌≡◌, ℕ, ◌+◌, ◌≤◌, List, ◌++◌, length, take, Option, Result, IfOk, IfErr}
use Rattle.dump_io.specs.Lines.{Header}
use Rattle.line_source.specs.declared.header_sink.RefusedHeader.{RefusedHeader}
use Rattle.line_source.specs.declared.scan_fault.ScanFault.{ScanFault}
use Rattle.line_source.specs.Streams.{new_headers}
use Rattle.line_source.specs.Scan.{Scan, StandsFor}
use Rattle.line_source.specs.Receiver.{stop_value}
use Rattle.line_source.specs.Feeding.{stop_of}
use Rattle.line_source.specs.Inner.Ends.{Ends}

-- the first bytes of the rest, at least one, were taken as the next ones of the stream,
-- and the headers whose LF is among them were heard; or the rest ends the stream
pub record Takes (before after : Scan) (rest : List ℕ) (heard_before heard_after : List Header) (refused : Option RefusedHeader) (result : Result ℕ ScanFault) : Type 0 where
  pub within : IfOk result (λ n. (1 ≤ n) × (n ≤ length rest))
  pub offset : IfOk result (λ n. after.offset ≡ before.offset + n)
  pub limit : after.limit ≡ before.limit
  pub stop : stop_value refused ≡ stop_of result
  pub stands : IfOk result (λ n. (stream : List ℕ) → StandsFor before stream → StandsFor after (stream ++ take n rest))
  pub heard : IfOk result (λ n. (stream : List ℕ) → StandsFor before stream → heard_after ≡ heard_before ++ new_headers stream (take n rest))
  pub ends : IfErr result (λ fault. (stream : List ℕ) → StandsFor before stream → Ends before.limit stream rest heard_before heard_after refused fault)
