-- How bytes are copied from the device to the sink.
use Rattle.std.specs.Prelude.{◌≡◌, ℕ, ◌+◌, ◌-◌, ◌==◌, ◌≤◌, List, [], ◌∷◌, length, min, None, Result, IfErr, if◌then◌else◌}
use Rattle.std.specs.List.{between}
use Rattle.dump_io.specs.Dumps.{Now, IsOpen, IfTold, size_of, DeviceState, DeviceFailed, ReadsAtMost}
use Rattle.dump_io.specs.Lines.{lf}
use Rattle.dump_io.specs.Sinks.{SinkState, Gained, WritesAll}
use Rattle.binary_payloads.specs.declared.enc.Enc.{Enc}
use Rattle.dump_redact.specs.declared.blanks.Stretch.{Stretch}
use Rattle.dump_redact.specs.declared.blanks.Stretch.TheVariants.{Plain, Payload}
use Rattle.dump_redact.specs.declared.faults.RedactFault.{RedactFault}
use Rattle.dump_redact.specs.declared.faults.RedactFault.TheVariants.{Read}
use Rattle.dump_redact.specs.Redacted.{blank}
use Rattle.dump_redact.specs.Refusals.{IsRedactCauseOf}

-- bytes with those before the first LF made blank
abbrev pub blank_line : Enc → List ℕ → List ℕ
blank_line enc [] = []
blank_line enc (c ∷ bytes) = if c == lf then c ∷ bytes else blank enc c ∷ blank_line enc bytes

-- what the bytes of a stretch become
abbrev pub copied : Stretch → List ℕ → List ℕ
copied Plain bytes = bytes
copied (Payload enc) bytes = blank_line enc bytes

-- the stretch in which the bytes after these stand: a payload ends with its line
abbrev pub stretch_behind : Stretch → List ℕ → Stretch
stretch_behind Plain bytes = Plain
stretch_behind (Payload enc) [] = Payload enc
stretch_behind (Payload enc) (c ∷ bytes) = if c == lf then Plain else stretch_behind (Payload enc) bytes

-- a file is open, and has at least this many bytes
abbrev pub HasUpto : Now → ℕ → Type 0
HasUpto now upto = IsOpen now × (upto ≤ size_of now)

-- how many bytes the first piece of those between two offsets has
abbrev pub piece_size : List ℕ → ℕ → ℕ → ℕ
piece_size buffer from upto = min (length buffer) (upto - from)

-- the first piece of the bytes of a dump between two offsets
abbrev pub first_piece : List ℕ → ℕ → ℕ → List ℕ → List ℕ
first_piece buffer from upto dump = between from (from + piece_size buffer from upto) dump

-- a fault says that the device failed, and it did
abbrev pub IsReadFault : DeviceState → DeviceState → RedactFault → Type 0
IsReadFault before after fault = (fault ≡ Read) × DeviceFailed before after

-- why copying broke off, as nothing is refused: the device or the sink failed; memory may be lacking at any time
abbrev pub IsBreak : DeviceState → DeviceState → SinkState → SinkState → RedactFault → Type 0
IsBreak before after sink sink' fault = IsRedactCauseOf None before after sink sink' fault

-- what each call that copies does: it takes at most this many bytes, and writes what the bytes
-- of the dump become, if the device tells them; on `Err` a proper prefix of that was written
pub record Copies {T : Type 0} (before after : DeviceState) (sink sink' : SinkState) (most : ℕ) (text : List ℕ → List ℕ) (result : Result T RedactFault) : Type 0 where
  pub reads : ReadsAtMost before after most
  pub later : sink.faults ≤ sink'.faults
  pub writes : IfTold before.now (λ dump. WritesAll sink.written sink'.written (text dump) result)
  pub fault : IfErr result (IsBreak before after sink sink')

-- what several successful calls that copy have done, as the invariant of a loop states it
pub record HasCopied (before after : DeviceState) (sink sink' : SinkState) (most : ℕ) (text : List ℕ → List ℕ) : Type 0 where
  pub reads : ReadsAtMost before after most
  pub later : sink.faults ≤ sink'.faults
  pub gained : IfTold before.now (λ dump. Gained sink sink' (text dump))
