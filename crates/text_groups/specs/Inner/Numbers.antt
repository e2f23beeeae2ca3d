-- Counting the items that have each number, and then giving each number at the first of them.
use Rattle.std.specs.Prelude.{◌≡◌, ℕ, ◌==◌, ◌<◌, Bool, List, [], ◌∷◌, filter, length, take, slice_index, None, Some, Option, if◌then◌else◌}
use Rattle.std.specs.BTreeMap.{BTreeMap, get_by}
use Rattle.std.specs.Cmp.Lexicographic.{slice_cmp}
use Rattle.std.specs.List.{list_any}
use Rattle.std.specs.Ordering.{nat_cmp}
use denote.Ref.{Bor}
use Rattle.text_groups.specs.Groups.{Item}
use Rattle.text_groups.specs.Numbers.{number_in}
use Rattle.text_groups.specs.declared.text_group.TextGroup.{TextGroup}

-- ---- texts

-- the tree has the number of each text
pub record IsNumberTree (tree : BTreeMap (Bor (List ℕ)) ℕ) (known : List (List ℕ)) : Type 0 where
  pub each : (text : List ℕ) → get_by (λ key. slice_cmp nat_cmp text key.now) tree ≡ number_in known text

-- ---- numbers

-- how many of these are this number
abbrev pub count_in : List ℕ → ℕ → ℕ
count_in numbers n = length (filter (λ m. m == n) numbers)

-- for each number how many of these are it
pub record AreCounts (counts numbers : List ℕ) : Type 0 where
  pub each : (n : ℕ) → n < length counts → slice_index counts n ≡ count_in numbers n

-- the counts that are left, without those of the first numbers
pub record AreLeftCounts (counts numbers : List ℕ) (first : ℕ) : Type 0 where
  pub each : (n : ℕ) → n < length counts
      → slice_index counts n ≡ (if list_any (λ m. m == n) (take first numbers) then 0 else count_in numbers n)

-- an item whose text is a number, and that has no weight
abbrev pub number_item : ℕ → Item
number_item n = record { text = n ∷ []; weight = 0 }

-- so many items with the same number are a group, if there is one
abbrev pub counted_group : ℕ → ℕ → Option TextGroup
counted_group first count = if count == 0 then None else Some (record { first = first; count = count; weight = 0 })
