-- Texts by their numbers: texts that are the same have one number, and texts that differ have different ones.
use Rattle.std.specs.Prelude.{◌≡◌, ℕ, List, ◌++◌, map, position, Option, Some}
use Rattle.std.specs.Str.{bytes_eq}
use Rattle.text_groups.specs.Groups.{Item}

-- the number of a text: its place among different texts
abbrev pub number_in : List (List ℕ) → List ℕ → Option ℕ
number_in known text = position (bytes_eq text) known

-- these are the numbers of texts, in order
pub record HaveNumbers (known texts : List (List ℕ)) (numbers : List ℕ) : Type 0 where
  pub each : map (number_in known) texts ≡ map Some numbers

-- texts were appended to others
pub record IsGrown (old new : List (List ℕ)) : Type 0 where
  pub more : List (List ℕ)
  pub are : new ≡ old ++ more

-- an item with a text and no weight
abbrev pub weightless : List ℕ → Item
weightless text = record { text = text; weight = 0 }
