-- What an index says of a dump.
use Rattle.std.specs.Prelude.{◌≡◌, ℕ, ◌+◌, ◌-◌, ◌≤◌, List, [], ◌∷◌, length, Some, All, codes, unwrap_or, if◌then◌else◌}
use Rattle.std.specs.Str.{bytes_eq}
use Rattle.dump_io.specs.Dumps.{Now, closed, told, sized}
use Rattle.dump_io.specs.Limits.{usual}
use Rattle.dump_io.specs.Lines.{Header, headers}
use Rattle.dump_sections.specs.declared.index.State.{State}
use Rattle.dump_sections.specs.declared.index.State.TheVariants.{Whole, TruncatedIn}
use Rattle.dump_sections.specs.declared.version.Version.{Version}
use Rattle.dump_sections.specs.declared.version.Version.TheVariants.{V05}
use Rattle.dump_sections.specs.Sections.{Section, sections_of, tag_of}
use Rattle.dump_sections.specs.Tiling.{Tile}
use Rattle.dump_sections.specs.Versions.{first_id, version_named}

-- the headers of a dump, its size in bytes and its version
pub record Contents : Type 0 where
  pub headers : List Header
  pub size : ℕ
  pub version : Version

-- the sections of an index
abbrev pub sections_in : Contents → List Section
sections_in index = sections_of index.headers index.size

-- a header's line holds its text, and has at most as many
-- bytes as the usual limit on headers, and one for its LF
pub record HasShortLine (header : Header) : Type 0 where
  pub text : header.at + length header.text ≤ header.body
  pub short : header.body ≤ header.at + usual.header + 1

-- what holds of every index: there is a section, the sections and the bytes are within the
-- usual limits, as is each header's line, and the sections tile the whole dump
pub record AreBounded (index : Contents) : Type 0 where
  pub some : 1 ≤ length index.headers
  pub sections : length index.headers ≤ usual.sections
  pub size : index.size ≤ usual.dump
  pub lines : All HasShortLine index.headers
  pub tiled : Tile 0 index.size (sections_in index)

-- the text of the last header
abbrev pub last_text : List Header → List ℕ
last_text [] = []
last_text (header ∷ []) = header.text
last_text (header ∷ next ∷ rest) = last_text (next ∷ rest)

-- a dump is whole if the tag of its last section is `end`, and otherwise truncated in that section
abbrev pub dump_state : List Header → State
dump_state headers = if bytes_eq (tag_of (last_text headers)) (codes "end") then Whole else TruncatedIn (length headers - 1)

-- a truncated dump is truncated in its last section
abbrev pub IsLastPlace : State → ℕ → Type 0
IsLastPlace Whole count = Unit {0}
IsLastPlace (TruncatedIn i) count = i + 1 ≡ count

-- the index of the bytes of an accepted dump, whose first line names a version that is read
abbrev pub index_of : List ℕ → Contents
index_of bytes = record { headers = headers bytes; size = length bytes; version = unwrap_or (version_named (first_id bytes)) V05 }

-- the index is that of these bytes
pub record IsIndexOf (bytes : List ℕ) (index : Contents) : Type 0 where
  pub headers : index.headers ≡ headers bytes
  pub size : index.size ≡ length bytes
  pub version : version_named (first_id bytes) ≡ Some index.version

-- the index is that of what is open; if the device doesn't tell the bytes, the sizes are equal
abbrev pub IsBuiltOver : Now → Contents → Type 0
IsBuiltOver closed index = ⊥
IsBuiltOver (told bytes) index = IsIndexOf bytes index
IsBuiltOver (sized size) index = index.size ≡ size
