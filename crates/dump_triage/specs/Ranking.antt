-- What is largest in a list, by a number of each place and of what is there.
use Rattle.std.specs.Prelude.{ℕ, zero, suc, ◌<◌, List, take, All, Option, None, Some}
use Rattle.std.specs.List.{enumerate_from, filter_map}
use Rattle.text_groups.specs.Sorting.{most_first}
use Rattle.dump_triage.specs.declared.ranked.Ranked.{Ranked}

-- the row of a place, if its number is known and isn't 0
abbrev pub ranked_row : ℕ → Option ℕ → Option Ranked
ranked_row place None = None
ranked_row place (Some zero) = None
ranked_row place (Some (suc less)) = Some (record { place = place; number = suc less })

-- the rows of a list's places, in their order
abbrev pub rows_by : {X : Type 0} → (ℕ × X → Option ℕ) → List X → List Ranked
rows_by number items = filter_map (λ item. ranked_row item.0 (number item)) (enumerate_from 0 items)

-- the first of some rows, at most `most`: the largest number comes first, and of equal ones the first place
abbrev pub first_rows : ℕ → List Ranked → List Ranked
first_rows most rows = take most (most_first (λ row. row.number) rows)

-- what is largest in a list
abbrev pub largest : {X : Type 0} → ℕ → (ℕ × X → Option ℕ) → List X → List Ranked
largest most number items = first_rows most (rows_by number items)

-- the rows name places of a list of this length
abbrev pub AreWithin : ℕ → List Ranked → Type 0
AreWithin count rows = All (λ row. row.place < count) rows
