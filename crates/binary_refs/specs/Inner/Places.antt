-- The `binary` sections by address.
use Rattle.std.specs.Prelude.{◌≡◌, ℕ, List, length, codes}
use Rattle.std.specs.Ordering.{nat_cmp}
use Rattle.dump_sections.specs.Index.{Contents, sections_in}
use Rattle.dump_sections.specs.Lookups.{has_hex, place_where}
use Rattle.dump_sections.specs.Sections.{Section}
use Rattle.dump_sections.specs.Places.{place_by}

-- the first place of each address among these is that of the first of these `binary` sections with the address
abbrev pub AreFirsts : List Section → List (ℕ × ℕ) → Type 0
AreFirsts sections places =
    (address : ℕ) → place_by nat_cmp address places ≡ place_where (has_hex (codes "binary") address) sections

-- these are the places in an index, which has a section for each header
pub record IsFound (index : Contents) (places : List (ℕ × ℕ)) : Type 0 where
  pub firsts : AreFirsts (sections_in index) places
  pub count : length (sections_in index) ≡ length index.headers
