-- What opening a dump answers.
use Rattle.std.specs.Prelude.{◌≡◌, ◌⊎◌, ℕ, ◌<◌, ◌≤◌, List, None, Some, Result, Ok, Err, Option}
use Rattle.dump_io.specs.Counts.{plus_capped}
use Rattle.dump_io.specs.Dumps.{IsNamed, Files, Now, closed, told, size_of, DeviceState}
use Rattle.dump_io.specs.Limits.{Numbers}
use Rattle.dump_sections.specs.Index.{Contents, IsIndexOf}
use Rattle.section_index.specs.declared.opening.OpenFault.{OpenFault}
use Rattle.section_index.specs.declared.opening.OpenFault.TheVariants.{TooLarge, Read, Memory}
use Rattle.section_index.specs.Opening.{IsAccepted, IsRefusedFor}

-- what an answer about these bytes says: the index of an accepted dump, or why it is refused
abbrev pub IsAnswerFor : List ℕ → Numbers → Result Contents OpenFault → Type 0
IsAnswerFor bytes limits (Ok index) = IsAccepted bytes limits × IsIndexOf bytes index
IsAnswerFor bytes limits (Err Read) = Unit {0}
IsAnswerFor bytes limits (Err Memory) = Unit {0}
IsAnswerFor bytes limits (Err fault) = IsRefusedFor bytes limits fault

-- if the fault is that the dump is too large, its size is that of what is open, and above the limit
abbrev pub IsTooLargeFor : Now → Numbers → OpenFault → Type 0
IsTooLargeFor now limits (TooLarge size) = (size ≡ size_of now) × (limits.dump < size)
IsTooLargeFor now limits fault = Unit {0}

-- nothing is open, or what is open is the file with this name, if the device tells its files
abbrev pub IsClosedOrNamed : Option Files → List ℕ → Now → Type 0
IsClosedOrNamed files name closed = Unit {0}
IsClosedOrNamed files name now = IsNamed files name now

-- what a call that opens a file by its name and reads it once does: the files stay the same, nothing or
-- that file is open, the count of faults doesn't fall, and at most as many bytes are taken as the file has
pub record ReadsFile (before after : DeviceState) (name : List ℕ) : Type 0 where
  pub same_files : after.files ≡ before.files
  pub now : IsClosedOrNamed before.files name after.now
  pub later : before.faults ≤ after.faults
  pub taken_least : before.taken ≤ after.taken
  pub taken_most : after.taken ≤ plus_capped before.taken (size_of after.now)

-- the device tells its files, and the one with this name has these bytes
abbrev pub IsHeld : Option Files → List ℕ → List ℕ → Type 0
IsHeld None name bytes = ⊥
IsHeld (Some files) name bytes = files name ≡ Some bytes

-- a file that was opened by its name has these bytes: the device tells
-- them under that name, or as those of what is open after the call
abbrev pub IsFileOf : DeviceState → DeviceState → List ℕ → List ℕ → Type 0
IsFileOf before after name bytes = IsHeld before.files name bytes ⊎ (after.now ≡ told bytes)
