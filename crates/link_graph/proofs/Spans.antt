-- Lists that are put one behind another, with their entries in one pool.
use Rattle.std.proofs.Common.{◌≡◌, ℕ, zero, suc, ◌-◌, ◌≤◌, ◌<◌, false, List, [], ◌∷◌, ◌++◌, length, drop, map, Some, refl, sym, ◌∙◌, ap, subst, arith, length-append}
use Rattle.std.specs.Prelude.{◌^◌, All, IsSomeAnd, IfSome, slice_get}
use Rattle.std.specs.Option.{option_map}
use Rattle.std.specs.List.{between}
use Rattle.std.proofs.lemmas.List.{drop_at, take_all, map-append}
use Rattle.std.proofs.lemmas.List.Elements.{All-head, All-tail, All-weaker, All-push}
use Rattle.link_graph.specs.Kinds.{Kind}
use Rattle.link_graph.specs.Entries.{Part, LinkEntry, entry_of, list_parts, entries_at}
use Rattle.link_graph.specs.Lists.{Links, links_in}
use Rattle.link_graph.specs.Inner.Sets.{AreKindsOf}
use Rattle.link_graph.specs.Inner.Spans.{span_entries, links_in_span, IsSpan, lists_in, AreSpans, KeepsKinds, HasGained}
use Rattle.link_graph.specs.declared.lists.Span.{Span}
use Rattle.link_graph.specs.declared.lists.Lists.{Lists}
use Rattle.link_graph.proofs.Counts.{length-entries}
use Rattle.dump_io.specs.Laws.Lists.{between-grown}

-- what was put behind a list
between-behind : {X : Type 0} (xs more : List X) → between (length xs) (length (xs ++ more)) (xs ++ more) ≡ more
between-behind xs more = grind (arith, drop_at, take_all, length-append)

still_there : {X : Type 0} (P : X → Type 0) (xs more : List X) (i : ℕ) → IsSomeAnd (slice_get xs i) P → IsSomeAnd (slice_get (xs ++ more) i) P
still_there P [] more i h = absurd h
still_there P (x ∷ xs) more zero h = h
still_there P (x ∷ xs) more (suc i) h = still_there P xs more i h

module _ (entries more : List LinkEntry) (sets others : List (List Kind)) where
  entries-more : (span : Span) → IsSpan entries sets span → span_entries (entries ++ more) span ≡ span_entries entries span
  entries-more span is = between-grown entries more span.from span.upto is.ordered is.inside

  -- what stands behind a list changes none of it
  links-more : (span : Span) → IsSpan entries sets span → links_in_span (entries ++ more) span ≡ links_in_span entries span
  links-more span is = ap (λ own. let links : Links = record { unread = span.unread; entries = own } in links) (entries-more span is)

  IsSpan-more : (span : Span) → IsSpan entries sets span → IsSpan (entries ++ more) (sets ++ others) span
  IsSpan-more span is = grind (arith, length-append, entries-more, still_there)

  lists-more : (spans : List Span) → All (IsSpan entries sets) spans → map (links_in_span (entries ++ more)) spans ≡ map (links_in_span entries) spans
  lists-more [] all = refl
  lists-more (span ∷ spans) all = grind (arith, lists-more spans (All-tail (IsSpan entries sets) span spans all), links-more, All-head)

  AreSpans-more : (spans : List Span) → All (IsSpan entries sets) spans → All (IsSpan (entries ++ more) (sets ++ others)) spans
  AreSpans-more spans all = All-weaker (IsSpan entries sets) (IsSpan (entries ++ more) (sets ++ others)) IsSpan-more spans all

-- one list more
pub HasGained-push : (before after : Lists) (span : Span) (more : List LinkEntry) (others : List (List Kind))
    → after.entries.items ≡ before.entries.items ++ more
    → after.sets.items ≡ before.sets.items ++ others
    → after.spans.items ≡ before.spans.items ++ span ∷ []
    → AreSpans before → IsSpan after.entries.items after.sets.items span
    → HasGained before after (links_in_span after.entries.items span)
HasGained-push before after span more others entries sets spans all is =
    let shown = links_in_span after.entries.items in
    let old : map shown before.spans.items ≡ lists_in before =
    ap (λ es. map (links_in_span es) before.spans.items) entries ∙ lists-more before.entries.items more before.sets.items others before.spans.items all in
    let still : All (IsSpan after.entries.items after.sets.items) before.spans.items =
    subst (λ es. All (IsSpan es after.sets.items) before.spans.items) (sym entries)
    (subst (λ ss. All (IsSpan (before.entries.items ++ more) ss) before.spans.items) (sym sets)
    (AreSpans-more before.entries.items more before.sets.items others before.spans.items all)) in
    record {
      lists = ap (map shown) spans ∙ map-append shown before.spans.items (span ∷ []) ∙ ap (λ lists. lists ++ shown span ∷ []) old;
      within = subst (All (IsSpan after.entries.items after.sets.items)) (sym spans) (All-push (IsSpan after.entries.items after.sets.items) before.spans.items span still is);
    }

-- a text that was read gives the list whose entries were put behind the others
module _ (before after : Lists) (span : Span) (at : ℕ) (text : List ℕ) (parts : List Part) (is : list_parts at text ≡ Some parts) (short : length text < 2 ^ 32)
    (grown : after.entries.items ≡ before.entries.items ++ map entry_of parts)
    (k : KeepsKinds (drop span.from after.entries.items) before.sets.items after.sets.items)
    (from_is : span.from ≡ length before.entries.items) (upto_is : span.upto ≡ length after.entries.items) (kinds_is : span.kinds ≡ length before.sets.items) (unread_is : span.unread ≡ false) where
  abbrev more : List LinkEntry
  more = map entry_of parts

  own_entries : span_entries after.entries.items span ≡ more
  own_entries = grind (arith, between-behind)

  behind_are : drop span.from after.entries.items ≡ more
  behind_are = ap (drop span.from) grown ∙ drop_at before.entries.items more span.from (sym from_is)

  count : span.upto - span.from ≡ length more
  count = omega (arith, from_is, upto_is, ap length grown, length-append before.entries.items more)

  few_entries : length more ≤ length text
  few_entries = subst (λ parts. IfSome (option_map (map entry_of) parts) (λ left. length left ≤ length text)) is (length-entries at text)

  own_links : links_in_span after.entries.items span ≡ links_in (entries_at at text)
  own_links = grind (arith, own_entries)

  own_kinds : 16 < span.upto - span.from → IsSomeAnd (slice_get after.sets.items span.kinds) (AreKindsOf (span_entries after.entries.items span))
  own_kinds many = grind (arith, count, behind_are, own_entries)

  pub HasGained-read : after.spans.items ≡ before.spans.items ++ span ∷ [] → AreSpans before → HasGained before after (links_in (entries_at at text))
  HasGained-read spans all =
      subst (HasGained before after) own_links
      (HasGained-push before after span more k.more grown k.grown spans all (record {
        ordered = omega (arith, from_is, upto_is, ap length grown, length-append before.entries.items more);
        inside = omega (arith, upto_is);
        few = omega (arith, count, few_entries, short);
        found = own_kinds;
      }))
