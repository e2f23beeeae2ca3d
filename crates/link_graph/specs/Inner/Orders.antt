-- The order of borrowed kinds.
use Rattle.std.specs.Prelude.{List}
use Rattle.std.specs.List.Sorted.{IsSorted}
use Rattle.link_graph.specs.contracts.shapes.EntryKindOrd.TheImpl as order
use Rattle.link_graph.specs.declared.shapes.EntryKind.{EntryKind}

-- no kind is less than the one before it
abbrev pub AreInOrder : List EntryKind → Type 0
AreInOrder kinds = IsSorted order.ghosts.cmp kinds
