-- Items grouped by their texts.
use Rattle.std.specs.Prelude.{ℕ, Bool, List, [], take, filter, length, slice_index_or, Option, None, Some, if◌then◌else◌}
use Rattle.std.specs.List.{enumerate_from, filter_map, list_any, sum_by}
use Rattle.std.specs.Str.{bytes_eq}
use Rattle.text_groups.specs.Sums.{capped}
use Rattle.text_groups.specs.declared.text_group.TextGroup.{TextGroup}

-- an item: its text, and its weight
pub record Item : Type 0 where
  pub text : List ℕ
  pub weight : ℕ

-- the item at a place; past the last one, one with nothing
abbrev pub item_at : List Item → ℕ → Item
item_at items i = slice_index_or items i (record { text = []; weight = 0 })

-- whether an item has this text
abbrev pub has_text : List ℕ → Item → Bool
has_text text item = bytes_eq text item.text

-- the items that have this text
abbrev pub members : List ℕ → List Item → List Item
members text items = filter (has_text text) items

-- the group of the item at a place in the list, if no item before it has its text
abbrev pub group_at : List Item → ℕ × Item → Option TextGroup
group_at items (first, item) =
    let those = members item.text items in
    if list_any (has_text item.text) (take first items) then None
    else Some (record { first = first; count = length those; weight = capped (sum_by (λ i. i.weight) those) })

-- the groups of items, in the order of their first ones
abbrev pub groups : List Item → List TextGroup
groups items = filter_map (group_at items) (enumerate_from 0 items)
