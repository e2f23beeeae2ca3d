-- The groups of processes that stand at the same place.
use Rattle.std.specs.Prelude.{◌≡◌, ℕ, ◌<◌, List, map, length, All}
use Rattle.dump_sections.specs.Index.{Contents}
use Rattle.section_rows.specs.Rows.{Row}
use Rattle.text_groups.specs.Sorting.{most_first}
use Rattle.text_groups.specs.Groups.{Item, groups}
use Rattle.text_groups.specs.declared.text_group.TextGroup.{TextGroup}
use Rattle.process_stacks.specs.Places.{place_lines, place_of}
use Rattle.process_stacks.specs.Rows.{memory_in}

-- the process of a row as it is grouped: by the lines of the place at which it stands, with its memory in bytes
abbrev pub stand_of : List ℕ → Contents → Row → Item
stand_of dump index row = record { text = place_lines (place_of dump index row); weight = memory_in row }

-- what is found of the processes of a dump: the lines of the place of each,
-- and their groups, the largest first; of equal ones the first in the dump first
pub record Found : Type 0 where
  pub places : List (List ℕ)
  pub groups : List TextGroup

-- what is found of processes, given how each of them is grouped: the lines of their places, and their groups
abbrev pub found_of : List Item → Found
found_of stands = record { places = map (λ s. s.text) stands; groups = most_first (λ group. group.count) (groups stands) }

-- what is found of the processes of these rows
abbrev pub found_from : List ℕ → Contents → List Row → Found
found_from dump index rows = found_of (map (stand_of dump index) rows)

-- what was found is on so many processes: each has a place, and the first of each group is one of them
pub record FitsStacks (count : ℕ) (found : Found) : Type 0 where
  pub places : length found.places ≡ count
  pub firsts : All (λ group. group.first < count) found.groups
