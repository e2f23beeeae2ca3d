-- Scanning a dump that comes in pieces.
use Rattle.std.specs.Prelude.{◌≡◌, ℕ, List, Some}
use Rattle.dump_io.specs.Limits.{Numbers}
use Rattle.line_source.specs.Streams.{ended_headers}
use Rattle.line_source.specs.Scan.{Scan, StandsFor}
use Rattle.line_source.specs.declared.scan_fault.ScanFault.{ScanFault}
use Rattle.line_source.specs.declared.scan_fault.ScanFault.TheVariants.{HeaderTooLong as LineTooLong, Stop}
use Rattle.line_source.specs.declared.header_sink.HeaderStop.{HeaderStop}
use Rattle.line_source.specs.declared.header_sink.HeaderStop.TheVariants.{TooMany, PoolFull, Memory as NoMemory}
use Rattle.section_index.specs.declared.opening.OpenFault.{OpenFault}
use Rattle.section_index.specs.declared.opening.OpenFault.TheVariants.{HeaderTooLong, TooManySections, HeadersTooLarge, Memory}
use Rattle.section_index.specs.Opening.{header_fault}
use Rattle.section_index.specs.Inner.Receiver.{Hearing}

-- the fault that a receiver's refusal becomes
abbrev pub stop_fault : HeaderStop → OpenFault
stop_fault (TooMany at) = TooManySections at
stop_fault (PoolFull at) = HeadersTooLarge at
stop_fault NoMemory = Memory

-- the fault that a scan's fault becomes
abbrev pub open_fault_of : ScanFault → OpenFault
open_fault_of (LineTooLong at) = HeaderTooLong at
open_fault_of (Stop value) = stop_fault value

-- the scan stands for these bytes, and its receiver heard those of their headers whose lines have their LF
pub record HasHeard (scan : Scan) (hearing : Hearing) (bytes : List ℕ) : Type 0 where
  pub stands : StandsFor scan bytes
  pub heard : hearing.heard ≡ ended_headers bytes

-- the refusal of a header of these bytes, or a lack of memory
abbrev pub IsHeaderFault : Numbers → List ℕ → OpenFault → Type 0
IsHeaderFault limits bytes Memory = Unit {0}
IsHeaderFault limits bytes fault = header_fault bytes limits ≡ Some fault

-- the refusal of a header, or a lack of memory
abbrev pub IsOfAHeader : OpenFault → Type 0
IsOfAHeader (HeaderTooLong at) = Unit {0}
IsOfAHeader (TooManySections at) = Unit {0}
IsOfAHeader (HeadersTooLarge at) = Unit {0}
IsOfAHeader Memory = Unit {0}
IsOfAHeader fault = ⊥
