use Rattle.std.proofs.Common.{◌≡◌, List, ◌++◌}
use Rattle.std.specs.Prelude.{map}
use Rattle.link_graph.specs.Entries.{LinkEntry, entry_of}
use Rattle.link_graph.proofs.lists.push_parts.Given as goal

-- the entries so far were put behind, and with those still to come they are all
abbrev pub invariant-loop-piece : goal.invariant-loop-piece
invariant-loop-piece l =
    (goal.iterator-loop-piece).can_next l.piece-iterator
    × (goal.iterator-loop-piece).is_finite l.piece-iterator
    × ((more : List LinkEntry) × (l.entries.items ≡ l.initial.entries.items ++ more) × (map entry_of l.fn.parts ≡ more ++ map entry_of l.piece-iterator))
