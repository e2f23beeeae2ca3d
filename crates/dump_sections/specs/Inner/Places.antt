-- The places of the first sections of a tag.
use Rattle.std.specs.Prelude.{◌≡◌, ℕ, List, length, Option, None, Some, if◌then◌else◌}
use Rattle.std.specs.Cmp.Lexicographic.{slice_cmp}
use Rattle.std.specs.Ordering.{nat_cmp}
use Rattle.std.specs.declared.cmp.Ordering.{Ordering}
use denote.Ref.{Bor}
use Rattle.dump_sections.specs.Index.{Contents, sections_in}
use Rattle.dump_sections.specs.Lookups.{has_tag, is_named, place_where}
use Rattle.dump_sections.specs.Sections.{Section, id_of}
use Rattle.dump_sections.specs.Places.{place_by}

-- the id, if the section has the tag
abbrev pub id_with : List ℕ → Section → Option (List ℕ)
id_with tag section = if has_tag tag section.text then id_of section.text else None

-- the order of ids: that of their bytes
abbrev pub id_cmp : Bor (List ℕ) → Bor (List ℕ) → Ordering
id_cmp id other = slice_cmp nat_cmp id.now other.now

-- the first place of each id among these is that of the first of these sections with the tag and the id
abbrev pub AreFirsts : List ℕ → List Section → List (Bor (List ℕ) × ℕ) → Type 0
AreFirsts tag sections places =
    (id : Bor (List ℕ)) → place_by id_cmp id places ≡ place_where (is_named tag (Some id.now)) sections

-- these are the places in an index, which has a section for each header
pub record IsFound (index : Contents) (tag : List ℕ) (places : List (Bor (List ℕ) × ℕ)) : Type 0 where
  pub firsts : AreFirsts tag (sections_in index) places
  pub count : length (sections_in index) ≡ length index.headers
