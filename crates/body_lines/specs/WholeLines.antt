-- Why the lines of a body weren't all heard, each of them whole.
use Rattle.std.specs.Prelude.{ℕ, List}
use Rattle.dump_io.specs.Dumps.{DeviceState}
use Rattle.dump_io.specs.Faults.{IsReadCauseOf}
use Rattle.dump_io.specs.Lines.{Line}
use Rattle.dump_io.specs.declared.faults.ReadFault.{ReadFault}
use Rattle.dump_io.specs.declared.faults.ReadFault.TheVariants.{Memory}
use Rattle.body_lines.specs.declared.faults.WholeLinesFault.{WholeLinesFault}
use Rattle.body_lines.specs.declared.faults.WholeLinesFault.TheVariants.{Unread, Stopped}
use Rattle.body_lines.specs.Hearing.{HearsFront, StopsFront}
use Rattle.body_lines.specs.Lines.{lines_at}

-- why not all lines were heard: they weren't all read, or the sink stopped; the first of them were heard in each case
abbrev pub EndsWhole : {S T : Type 0} → (S → S → List Line → Type 0) → (S → S → List Line → T → Type 0)
    → S → S → ℕ → ℕ → DeviceState → DeviceState → WholeLinesFault T → Type 0
EndsWhole hears stops old new from upto before after (Unread fault) =
    IsReadCauseOf before after fault × HearsFront hears lines_at old new from upto before.now
EndsWhole hears stops old new from upto before after (Stopped stop) =
    StopsFront hears stops lines_at old new from upto before.now stop

-- the fault of reading that a fault of hearing whole lines is, where the sink stops only for want of memory
abbrev pub read_fault : {T : Type 0} → WholeLinesFault T → ReadFault
read_fault (Unread fault) = fault
read_fault (Stopped stop) = Memory
