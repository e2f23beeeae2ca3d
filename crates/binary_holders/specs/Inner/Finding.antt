-- Finding the stored binaries, one section after another.
use Rattle.std.specs.Prelude.{◌≡◌, ℕ, ◌<◌, List, length, map, All}
use Rattle.dump_sections.specs.Bodies.{section_at}
use Rattle.dump_sections.specs.Index.{Contents}
use Rattle.dump_sections.specs.Sections.{Section}
use Rattle.binary_holders.specs.declared.stored.StoredAt.{StoredAt}
use Rattle.binary_holders.specs.declared.stored.Found.{Found}
use Rattle.binary_holders.specs.Inner.Places.{ArePlaces}
use Rattle.binary_holders.specs.StoredBinaries.{Stored, stored, stored_at}

-- a stored binary, whose section is the one at its place
abbrev pub stored_of : Contents → StoredAt → Stored
stored_of index binary = stored_at (section_at index binary.section) binary.number

-- the numbers of stored binaries
abbrev pub numbers_of : List StoredAt → List ℕ
numbers_of binaries = map (λ binary. binary.number) binaries

-- the stored binaries among these sections were found, and their places by their numbers
pub record AreFound (index : Contents) (sections : List Section) (found : Found) : Type 0 where
  pub are : map (stored_of index) found.binaries.items ≡ stored sections
  pub within : All (λ binary. binary.section < length index.headers) found.binaries.items
  pub places : ArePlaces found.places (numbers_of found.binaries.items)
