-- The set of the kinds of a long list.
use Rattle.std.specs.Prelude.{◌≡◌, List}
use Rattle.std.specs.List.{list_any}
use Rattle.link_graph.specs.Kinds.{Kind, is_same_kind}
use Rattle.link_graph.specs.Entries.{LinkEntry}
use Rattle.link_graph.specs.Lists.{has_kind}
use Rattle.link_graph.specs.Seen.{shown_kind}
use Rattle.link_graph.specs.declared.shapes.EntryKind.{EntryKind}

-- the set has a kind exactly when some entry is of that kind
abbrev pub AreKindsOf : List LinkEntry → List Kind → Type 0
AreKindsOf entries kinds = (wanted : EntryKind) → list_any (is_same_kind (shown_kind wanted)) kinds ≡ has_kind (shown_kind wanted) entries
