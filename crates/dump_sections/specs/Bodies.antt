-- Sections by their places, and their bodies.
use Rattle.std.specs.Prelude.{◌≡◌, ℕ, ◌-◌, ◌<◌, ◌≤◌, List, [], length, slice_get, IfSome, Option, Some, unwrap_or, option_map}
use Rattle.std.specs.List.{between}
use Rattle.std.specs.Option.{option_map_or}
use Rattle.dump_io.specs.Dumps.{Now, closed, told, sized}
use Rattle.dump_io.specs.Limits.{usual}
use Rattle.dump_sections.specs.Index.{Contents, sections_in}
use Rattle.dump_sections.specs.Sections.{Section, section}

-- the section at a place; past the last one, an empty section
abbrev pub at_place : List Section → ℕ → Section
at_place sections i = unwrap_or (slice_get sections i) (section 0 0 0 [])

-- the section at a place of an index
abbrev pub section_at : Contents → ℕ → Section
section_at index i = at_place (sections_in index) i

-- the section at a place, if there is one
abbrev pub section_in : Contents → Option ℕ → Option Section
section_in index place = option_map (section_at index) place

-- a place is that of a section of an index, if there is one
abbrev pub IsPlaceIn : Contents → Option ℕ → Type 0
IsPlaceIn index place = IfSome place (λ i. i < length index.headers)

-- how many bytes the body of a section has
abbrev pub body_length : Section → ℕ
body_length section = section.end - section.body

-- the body of a section in the bytes of a dump
abbrev pub body_of : List ℕ → Section → List ℕ
body_of dump section = between section.body section.end dump

-- where the body of a section that may be missing begins in the file
abbrev pub body_start : Option Section → ℕ
body_start found = option_map_or (λ s. s.body) found 0

-- how many bytes the body has of a section that may be missing, which counts as empty
abbrev pub body_size : Option Section → ℕ
body_size found = option_map_or body_length found 0

-- the body of a section that may be missing in the bytes of a dump; a missing section counts as empty
abbrev pub body_in : List ℕ → Option Section → List ℕ
body_in dump found = option_map_or (body_of dump) found []

-- the body of a section that may be missing has these bytes, if the device tells the bytes of what is open
abbrev pub IsBodyIn : Now → Option Section → List ℕ → Type 0
IsBodyIn closed found bytes = ⊥
IsBodyIn (told dump) found bytes = bytes ≡ body_in dump found
IsBodyIn (sized size) found bytes = Unit {0}

-- what was read of a section is its body: as many bytes, and those of what is open, if the device tells them
pub record IsBodyOf (now : Now) (section : Section) (bytes : List ℕ) : Type 0 where
  pub size : length bytes ≡ body_length section
  pub small : length bytes ≤ usual.section
  pub told : IsBodyIn now (Some section) bytes
