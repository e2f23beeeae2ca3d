-- One field of every section with a tag.
use Rattle.std.specs.Prelude.{ℕ, List, [], ◌∷◌, filter}
use Rattle.dump_sections.specs.Lookups.{has_tag}
use Rattle.dump_sections.specs.Sections.{Section, sections}
use Rattle.section_rows.specs.Rows.{Column, Row, field, id, rows_of}

-- the sections with this tag, with or without an id, in dump order
abbrev pub tagged : List ℕ → List Section → List Section
tagged tag sections = filter (λ s. has_tag tag s.text) sections

-- what is kept of a section: its id, and its first field with this key
abbrev pub columns_with : List ℕ → List Column
columns_with key = id ∷ field key ∷ []

-- a row for each section of the bytes of a dump that has this tag, with the field that has this key
abbrev pub section_fields : List ℕ → List ℕ → List ℕ → List Row
section_fields tag key bytes = rows_of bytes (columns_with key) (tagged tag (sections bytes))
