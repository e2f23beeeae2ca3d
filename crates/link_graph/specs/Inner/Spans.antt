-- Link lists whose entries are stored in one pool.
use Rattle.std.specs.Prelude.{◌≡◌, ◌-◌, ◌<◌, ◌≤◌, ◌^◌, List, [], ◌∷◌, ◌++◌, length, map, slice_get, All, IsSomeAnd}
use Rattle.std.specs.List.{between}
use Rattle.link_graph.specs.Kinds.{Kind}
use Rattle.link_graph.specs.Entries.{LinkEntry}
use Rattle.link_graph.specs.Lists.{Links}
use Rattle.link_graph.specs.Inner.Sets.{AreKindsOf}
use Rattle.link_graph.specs.declared.lists.Span.{Span}
use Rattle.link_graph.specs.declared.lists.Lists.{Lists}

-- the entries of a list among those of all
abbrev pub span_entries : List LinkEntry → Span → List LinkEntry
span_entries entries span = between span.from span.upto entries

-- the links that a span stands for
abbrev pub links_in_span : List LinkEntry → Span → Links
links_in_span entries span = record { unread = span.unread; entries = span_entries entries span }

-- the entries are there, 32 bits can count them, and if they are many, their kinds are in a set
pub record IsSpan (entries : List LinkEntry) (sets : List (List Kind)) (span : Span) : Type 0 where
  pub ordered : span.from ≤ span.upto
  pub inside : span.upto ≤ length entries
  pub few : span.upto - span.from < 2 ^ 32
  pub found : 16 < span.upto - span.from → IsSomeAnd (slice_get sets span.kinds) (AreKindsOf (span_entries entries span))

-- the lists, in order
abbrev pub lists_in : Lists → List Links
lists_in lists = map (links_in_span lists.entries.items) lists.spans.items

-- each span is one of the entries
abbrev pub AreSpans : Lists → Type 0
AreSpans lists = All (IsSpan lists.entries.items lists.sets.items) lists.spans.items

-- if the entries are many, their kinds were appended to the sets
pub record KeepsKinds (entries : List LinkEntry) (before after : List (List Kind)) : Type 0 where
  pub more : List (List Kind)
  pub grown : after ≡ before ++ more
  pub found : 16 < length entries → IsSomeAnd (slice_get after (length before)) (AreKindsOf entries)

-- there is one more list, after those before
pub record HasGained (before after : Lists) (links : Links) : Type 0 where
  pub lists : lists_in after ≡ lists_in before ++ links ∷ []
  pub within : AreSpans after
