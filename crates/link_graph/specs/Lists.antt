-- The entries of a process's link list, as a look-up finds them.
use Rattle.std.specs.Prelude.{ℕ, Bool, List, [], Option, Some, is_none, slice_get, unwrap_or}
use Rattle.std.specs.List.{list_any}
use Rattle.link_graph.specs.Kinds.{Kind, is_same_kind}
use Rattle.link_graph.specs.Entries.{LinkEntry}

-- the entries of a process, and whether it has a link list that isn't a list
pub record Links : Type 0 where
  pub unread : Bool
  pub entries : List LinkEntry

-- the links of a process whose link list has these entries; it is unread if it isn't a list
abbrev pub links_in : Option (List LinkEntry) → Links
links_in entries = record { unread = is_none entries; entries = unwrap_or entries [] }

-- the links of a process without a link list
abbrev pub no_links : Links
no_links = links_in (Some [])

-- the links at a place; past the last one, those of a process without a link list
abbrev pub links_at : List Links → ℕ → Links
links_at lists p = unwrap_or (slice_get lists p) no_links

-- whether an entry is of this kind, with these texts
abbrev pub has_kind : Kind → List LinkEntry → Bool
has_kind kind entries = list_any (λ entry. is_same_kind kind entry.kind) entries
