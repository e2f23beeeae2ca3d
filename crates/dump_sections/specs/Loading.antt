-- Loading the bodies of several sections, and why they aren't loaded.
use Rattle.std.specs.Prelude.{◌≡◌, ℕ, List, map, find, Option, None, Result, nat_lt, option_map, IfErr, IsSome, OnOk}
use Rattle.std.specs.List.{sum_by}
use Rattle.dump_io.specs.Dumps.{DeviceState, ReadsAtMost}
use Rattle.dump_io.specs.Faults.{Cause, refuses, fails, lacks, IsCauseOf}
use Rattle.dump_sections.specs.declared.bodies.BodyFault.{BodyFault}
use Rattle.dump_sections.specs.declared.bodies.BodyFault.TheVariants.{SectionTooLarge, Read, Memory}
use Rattle.dump_sections.specs.declared.bodies.LargeSection.{LargeSection}
use Rattle.dump_sections.specs.Bodies.{section_at, body_length}
use Rattle.dump_sections.specs.Index.{Contents}
use Rattle.dump_sections.specs.Sections.{Section}

-- the sections at these places
abbrev pub sections_at : Contents → List ℕ → List Section
sections_at index places = map (section_at index) places

-- how many bytes the bodies of sections have together
abbrev pub bodies_length : List Section → ℕ
bodies_length sections = sum_by body_length sections

-- the first section whose body has more bytes than the limit
abbrev pub first_large : ℕ → List Section → Option Section
first_large limit sections = find (λ s. nat_lt limit (body_length s)) sections

-- a section as one that is too large: its offset, and how many bytes its body has
abbrev pub large_section : Section → LargeSection
large_section section = record { at = section.at; len = body_length section }

-- the refusal of sections: the first that is too large
abbrev pub large_fault : ℕ → List Section → Option LargeSection
large_fault limit sections = option_map large_section (first_large limit sections)

-- the fault of a section that is too large
abbrev pub body_fault : LargeSection → BodyFault
body_fault large = SectionTooLarge large.at large.len

-- what the fault of a body says
abbrev pub body_cause : BodyFault → Cause LargeSection
body_cause (SectionTooLarge at len) = refuses (record { at = at; len = len })
body_cause Read = fails
body_cause Memory = lacks

-- why the bodies of sections aren't loaded: the first that is too large is named; or
-- none is, and the device failed; memory may be lacking at any time
abbrev pub AreRefused : List Section → ℕ → DeviceState → DeviceState → BodyFault → Type 0
AreRefused sections limit before after fault =
    IsCauseOf (large_fault limit sections) before after (body_cause fault)

-- why bodies none of which is too large aren't loaded: nothing is refused
abbrev pub IsUnloaded : DeviceState → DeviceState → BodyFault → Type 0
IsUnloaded before after fault = IsCauseOf None before after (body_cause fault)

-- what each call does that loads bodies of so many bytes, or says why not, between two states of its device:
-- it reads at most so many; if they are refused, it doesn't load them and reads nothing; each fault has its cause
pub record Loads {D T F R : Type 0} (state : D → DeviceState) (size : ℕ) (refusal : Option R) (IsCause : DeviceState → DeviceState → F → Type 0) (before after : D) (result : Result T F) : Type 0 where
  pub reads : ReadsAtMost (state before) (state after) size
  pub allowed : OnOk result (refusal ≡ None)
  pub unread : IsSome refusal → after ≡ before
  pub fault : IfErr result (IsCause (state before) (state after))

-- what each call does that loads the bodies of these sections, which are refused if one is too large
abbrev pub LoadsBodies : {D T : Type 0} → (D → DeviceState) → List Section → ℕ → D → D → Result T BodyFault → Type 0
LoadsBodies state sections limit before after result =
    let refusal = large_fault limit sections in
    Loads state (bodies_length sections) refusal (AreRefused sections limit) before after result
