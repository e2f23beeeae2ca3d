-- How many sections each tag has.
use Rattle.std.specs.Prelude.{ℕ, List, [], ◌∷◌, map, filter, count_by, not}
use Rattle.std.specs.Str.{bytes_eq}
use Rattle.dump_sections.specs.Index.{Contents, sections_in}
use Rattle.dump_sections.specs.Sections.{tag_of}

-- each text once, in the order in which they first appear
abbrev pub distinct : List (List ℕ) → List (List ℕ)
distinct [] = []
distinct (text ∷ texts) = text ∷ filter (λ other. not (bytes_eq text other)) (distinct texts)

-- each tag in the order of first appearance, with the number of times that it appears
abbrev pub tag_counts : List (List ℕ) → List (List ℕ × ℕ)
tag_counts tags = map (λ tag. (tag, count_by (bytes_eq tag) tags)) (distinct tags)

-- the tags of the sections of an index
abbrev pub tags_in : Contents → List (List ℕ)
tags_in index = map (λ section. tag_of section.text) (sections_in index)
