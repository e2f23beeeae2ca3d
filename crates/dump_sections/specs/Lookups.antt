-- Looking sections up by their tags and ids.
use Rattle.std.specs.Prelude.{ℕ, Bool, ◌&&◌, nat_eq, List, find, position, Option, Some}
use Rattle.std.specs.Option.{option_eq, option_and_then}
use Rattle.std.specs.Str.{bytes_eq}
use Rattle.dump_io.specs.Numbers.{hex_number}
use Rattle.dump_sections.specs.Sections.{Section, tag_of, id_of}

-- whether a header's text has this tag, with or without an id
abbrev pub has_tag : List ℕ → List ℕ → Bool
has_tag tag text = bytes_eq (tag_of text) tag

-- whether a header's text has exactly this tag and id, where having no id matches only having none
abbrev pub is_named : List ℕ → Option (List ℕ) → List ℕ → Bool
is_named tag id text = has_tag tag text && option_eq bytes_eq (id_of text) id

-- whether a header's text has this tag and an id that is this number in hex
abbrev pub has_hex : List ℕ → ℕ → List ℕ → Bool
has_hex tag n text = has_tag tag text && option_eq nat_eq (option_and_then hex_number (id_of text)) (Some n)

-- the place of the first section whose header's text passes a test
abbrev pub place_where : (List ℕ → Bool) → List Section → Option ℕ
place_where test sections = position (λ section. test section.text) sections

-- the first section whose header's text passes a test
abbrev pub first_where : (List ℕ → Bool) → List Section → Option Section
first_where test sections = find (λ section. test section.text) sections

-- the first section with this tag
abbrev pub first_tagged : List ℕ → List Section → Option Section
first_tagged tag sections = first_where (has_tag tag) sections

-- the first section with exactly this tag and this id
abbrev pub first_named : List ℕ → List ℕ → List Section → Option Section
first_named tag id sections = first_where (is_named tag (Some id)) sections

-- the first section with this tag and an id that is this number in hex
abbrev pub first_hex : List ℕ → ℕ → List Section → Option Section
first_hex tag n sections = first_where (has_hex tag n) sections
