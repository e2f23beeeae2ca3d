-- How a dump begins.
use Rattle.std.specs.Prelude.{◌≡◌, ℕ, ◌<◌, ◌==◌, Bool, true, List, [], length, nat_eq, unwrap_or, None, Some, Result, Ok, Err}
use Rattle.std.specs.List.{starts_with}
use Rattle.dump_io.specs.Limits.{Numbers}
use Rattle.dump_io.specs.Lines.{lf}
use Rattle.section_index.specs.declared.opening.OpenFault.{OpenFault}
use Rattle.section_index.specs.declared.opening.OpenFault.TheVariants.{Version as UnknownVersion, TooLarge, Read, Memory}
use Rattle.dump_sections.specs.declared.version.Version.{Version}
use Rattle.section_index.specs.declared.builder.TheConstants.{PIECE}
use Rattle.dump_sections.specs.Versions.{signature, first_id, version_named}
use Rattle.section_index.specs.Opening.{fault_of, header_fault}
use Rattle.dump_sections.specs.Sections.{id_of}

-- whether a byte is LF
abbrev pub is_lf : ℕ → Bool
is_lf c = c == lf

-- these bytes are all there are, or a whole piece
abbrev pub IsAllOrLong : List ℕ → List ℕ → Type 0
IsAllOrLong first more = length first < PIECE → more ≡ []

-- the id of a header's text
abbrev pub id_in : List ℕ → List ℕ
id_in text = unwrap_or (id_of text) []

-- the version that the text's id names, or the fault that the id names none
abbrev pub IsVersionOf : List ℕ → Result Version OpenFault → Type 0
IsVersionOf text (Ok version) = version_named (id_in text) ≡ Some version
IsVersionOf text (Err Memory) = Unit {0}
IsVersionOf text (Err fault) = (fault ≡ UnknownVersion (id_in text)) × (version_named (id_in text) ≡ None)

-- these are the first bytes of a dump of this version, which only a header can still refuse
pub record BeginsAs (limits : Numbers) (bytes : List ℕ) (read : Version) : Type 0 where
  pub signed : starts_with nat_eq bytes signature ≡ true
  pub fault : fault_of bytes limits ≡ header_fault bytes limits
  pub version : version_named (first_id bytes) ≡ Some read

-- the beginning is accepted, or these bytes are refused for this cause
abbrev pub IsJudged : Numbers → List ℕ → Result Version OpenFault → Type 0
IsJudged limits bytes (Ok version) = BeginsAs limits bytes version
IsJudged limits bytes (Err Memory) = Unit {0}
IsJudged limits bytes (Err fault) = fault_of bytes limits ≡ Some fault

-- a refusal that the bytes decide, or a lack of memory
abbrev pub IsOfTheBeginning : OpenFault → Type 0
IsOfTheBeginning (TooLarge size) = ⊥
IsOfTheBeginning Read = ⊥
IsOfTheBeginning fault = Unit {0}
