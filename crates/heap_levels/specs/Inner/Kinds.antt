-- The kinds of roots as they are kept.
use Rattle.std.specs.Prelude.{nat_lt, if◌then◌else◌, List, [], ◌∷◌, ◌++◌}
use Rattle.heap_weights.specs.declared.shares.Weight.{Weight}
use Rattle.root_views.specs.declared.kinds.RootKind.{RootKind}
use Rattle.root_views.specs.declared.kinds.RootKind.TheVariants.{Stack, Dict, Mail}
use Rattle.text_groups.specs.Sorting.{most_first}
use Rattle.heap_levels.specs.declared.kinds.KindRow.{KindRow}

-- a kind, if it alone holds a cell
abbrev pub row_if : RootKind → Weight → List KindRow
row_if kind weight = if nat_lt 0 weight.cells then (record { kind = kind; weight = weight }) ∷ [] else []

-- the kinds that do
abbrev pub rows_of : Weight → Weight → Weight → List KindRow
rows_of stack dict mail = (row_if Stack stack ++ row_if Dict dict) ++ row_if Mail mail

-- the most words first
abbrev pub sorted_rows : Weight → Weight → Weight → List KindRow
sorted_rows stack dict mail = most_first (λ row. row.weight.words) (rows_of stack dict mail)
