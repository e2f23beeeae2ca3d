-- Counting the items that have each text, and then giving each text at the first of them.
use Rattle.std.specs.Prelude.{◌≡◌, ℕ, List, [], ◌∷◌, take, length, unwrap_or, Option, None, Some, if◌then◌else◌}
use Rattle.std.specs.BTreeMap.{BTreeMap, get_by}
use Rattle.std.specs.Cmp.Lexicographic.{slice_cmp}
use Rattle.std.specs.List.{list_any, sum_by}
use Rattle.std.specs.Ordering.{nat_cmp}
use denote.Ref.{Bor}
use Rattle.text_groups.specs.Sums.{capped}
use Rattle.text_groups.specs.Groups.{Item, has_text, members}
use Rattle.text_groups.specs.declared.grouping.Tally.{Tally}

-- how many items these are, and their weight together; none have no tally
abbrev pub tally : List Item → Option Tally
tally [] = None
tally (item ∷ items) = Some (record { count = length (item ∷ items); weight = capped (sum_by (λ i. i.weight) (item ∷ items)) })

-- a tally, or the tally of no items
abbrev pub tally_or_none : Option Tally → Tally
tally_or_none found = unwrap_or found (record { count = 0; weight = 0 })

-- the tally in a tree for a text
abbrev pub tallied : BTreeMap (Bor (List ℕ)) Tally → List ℕ → Option Tally
tallied tallies text = get_by (λ key. slice_cmp nat_cmp text key.now) tallies

-- the tree has for each text the tally of the items that have it
pub record AreTallied (tallies : BTreeMap (Bor (List ℕ)) Tally) (items : List Item) : Type 0 where
  pub each : (text : List ℕ) → tallied tallies text ≡ tally (members text items)

-- the tree has for each text the tally of the items that have it, but none for the texts of the first items
pub record AreLeft (tallies : BTreeMap (Bor (List ℕ)) Tally) (items : List Item) (first : ℕ) : Type 0 where
  pub each : (text : List ℕ)
      → tallied tallies text ≡ (if list_any (has_text text) (take first items) then None else tally (members text items))
