-- Counting what the lines of heaps refer to.
use Rattle.std.specs.Prelude.{◌≡◌, List, length, Option}
use Rattle.std.specs.List.{filter_map}
use Rattle.body_lines.specs.Lines.{CutLine}
use Rattle.binary_payloads.specs.declared.enc.Enc.{Enc}
use Rattle.binary_holders.specs.declared.heap_sink.HeapSink.{HeapSink}
use Rattle.binary_holders.specs.declared.texts.Reference.{Reference}
use Rattle.binary_holders.specs.Inner.Lines.{line_reference}
use Rattle.binary_holders.specs.Inner.Counting.{HasRoom, Adds, KeepsRoom}

-- the reference of a line, from what is heard of it
abbrev pub cut_reference : Enc → CutLine → Option Reference
cut_reference enc line = line_reference enc line.front

-- the references of lines, from what is heard of them
abbrev pub cut_references : Enc → List CutLine → List Reference
cut_references enc lines = filter_map (cut_reference enc) lines

-- there is room for the binaries that are targets
abbrev pub IsReady : HeapSink → Type 0
IsReady sink = HasRoom (length sink.targets.now) sink.counts

-- the encoding, the binaries that are targets and the room for them stay
pub record KeepsTargets (old new : HeapSink) : Type 0 where
  pub enc : new.enc ≡ old.enc
  pub targets : new.targets.now ≡ old.targets.now
  pub room : KeepsRoom old.counts new.counts

-- between two states of the sink, the references of these lines were counted
pub record AddsLines (old new : HeapSink) (lines : List CutLine) : Type 0 where
  pub keeps : KeepsTargets old new
  pub adds : Adds old.targets.now old.counts new.counts (cut_references old.enc lines)
