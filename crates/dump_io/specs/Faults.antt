-- Why a call that reads from a device isn't done.
use Rattle.std.specs.Prelude.{◌≡◌, Option, None, Some}
use Rattle.dump_io.specs.Dumps.{DeviceState, DeviceFailed}
use Rattle.dump_io.specs.declared.faults.ReadFault.{ReadFault}
use Rattle.dump_io.specs.declared.faults.ReadFault.TheVariants.{Read, Memory}

-- what a fault says: that the call is refused, that the device failed, or that there was no memory
pub data Cause (R : Type 0) : Type 0 where
  refuses : R → Cause R
  fails : Cause R
  lacks : Cause R

-- the causes of a fault between two states of a device: this refusal; or there
-- is none, and the device failed; memory may be lacking at any time
abbrev pub IsCauseOf : {R : Type 0} → Option R → DeviceState → DeviceState → Cause R → Type 0
IsCauseOf refusal before after (refuses why) = refusal ≡ Some why
IsCauseOf refusal before after fails = (refusal ≡ None) × DeviceFailed before after
IsCauseOf refusal before after lacks = Unit {0}

-- what a fault of reading says: nothing is refused
abbrev pub read_cause : ReadFault → Cause ⊥
read_cause Read = fails
read_cause Memory = lacks

-- why a call isn't done that refuses nothing: the device failed; memory may be lacking at any time
abbrev pub IsReadCauseOf : DeviceState → DeviceState → ReadFault → Type 0
IsReadCauseOf before after fault = IsCauseOf None before after (read_cause fault)
