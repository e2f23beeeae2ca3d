-- The bytes of a dump that have been read.
use Rattle.std.specs.Prelude.{◌≡◌, ℕ, true, List, nat_eq}
use Rattle.std.specs.List.{starts_with}
use Rattle.dump_io.specs.Dumps.{Now, told, Gives}
use Rattle.dump_io.specs.Limits.{Numbers}
use Rattle.line_source.specs.Scan.{Scan}
use Rattle.section_index.specs.declared.opening.OpenFault.{OpenFault}
use Rattle.section_index.specs.declared.opening.OpenFault.TheVariants.{TooLarge}
use Rattle.dump_sections.specs.Versions.{signature}
use Rattle.section_index.specs.Inner.Receiver.{Hearing}
use Rattle.section_index.specs.Inner.Scanning.{HasHeard, IsHeaderFault, IsOfAHeader}

-- a scan has heard the first bytes of what is open, which begin as a dump
pub record HasBegun (now : Now) (scan : Scan) (hearing : Hearing) : Type 0 where
  pub bytes : List ℕ
  pub first : Gives now 0 bytes
  pub signed : starts_with nat_eq bytes signature ≡ true
  pub heard : HasHeard scan hearing bytes

-- the refusal of a header, or a lack of memory; if the device
-- tells the bytes of what is open, it is their refusal
pub record IsHeaderRefusal (limits : Numbers) (now : Now) (fault : OpenFault) : Type 0 where
  pub kind : IsOfAHeader fault
  pub refusal : (bytes : List ℕ) → now ≡ told bytes → IsHeaderFault limits bytes fault

-- a refusal other than that the dump is too large
abbrev pub IsNotTooLarge : OpenFault → Type 0
IsNotTooLarge (TooLarge size) = ⊥
IsNotTooLarge fault = Unit {0}
