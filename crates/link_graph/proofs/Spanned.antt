-- The list at a place, by the span that stands there.
use Rattle.std.proofs.Common.{◌≡◌, ℕ, zero, suc, ◌+◌, ◌-◌, ◌<◌, List, [], ◌∷◌, length, get_or, drop, Some, sym, ◌∙◌, ap, subst, arith}
use Rattle.std.specs.Prelude.{All, slice_get}
use Rattle.std.specs.List.{between}
use Rattle.std.proofs.lemmas.List.{length-map, length-take, get_or-take, get_or-drop}
use Rattle.std.proofs.lemmas.List.Elements.{All-head, All-tail}
use Rattle.std.proofs.lemmas.Option.{slice_get_read, slice_get-get_or, slice_get-map}
use Rattle.link_graph.specs.Entries.{LinkEntry}
use Rattle.link_graph.specs.Lists.{Links, links_at}
use Rattle.link_graph.specs.Inner.Spans.{links_in_span, IsSpan, lists_in, AreSpans}
use Rattle.link_graph.specs.declared.lists.Lists.{Lists}
use Rattle.link_graph.specs.declared.lists.Span.{Span}

all-at : {X : Type 0} (P : X → Type 0) (xs : List X) (p : ℕ) (x : X) → All P xs → p < length xs → P (get_or xs p x)
all-at P [] p x all within = absurd (omega (arith, within))
all-at P (y ∷ ys) zero x all within = All-head P y ys all
all-at P (y ∷ ys) (suc p) x all within = all-at P ys p x (All-tail P y ys all) (omega (arith, within))

module _ (lists : Lists) (p : ℕ) (span : Span) (place : p < length (lists_in lists)) (at : span ≡ get_or lists.spans.items p span) where
  pub span-inside : p < length lists.spans.items
  span-inside = omega (arith, place, length-map lists.spans.items (links_in_span lists.entries.items))

  pub links-shown : links_at (lists_in lists) p ≡ links_in_span lists.entries.items span
  links-shown = grind (arith, slice_get-map, slice_get_read, span-inside)

  pub is-span : AreSpans lists → IsSpan lists.entries.items lists.sets.items span
  is-span all = subst (IsSpan lists.entries.items lists.sets.items) (sym at) (all-at (IsSpan lists.entries.items lists.sets.items) lists.spans.items p span all span-inside)

  -- an entry of the list is one of all
  pub number-inside : (n : ℕ) → n < length (links_at (lists_in lists) p).entries → AreSpans lists → (n < span.upto - span.from) × (span.from + n < length lists.entries.items)
  number-inside n few all = grind (arith, is-span, links-shown, length-take)

  pub entry-shown : (n : ℕ) (entry : LinkEntry) → n < length (links_at (lists_in lists) p).entries → AreSpans lists → entry ≡ get_or lists.entries.items (span.from + n) entry
      → slice_get (links_at (lists_in lists) p).entries n ≡ Some entry
  entry-shown n entry few all is =
      let own : n < length (between span.from span.upto lists.entries.items) = subst (λ (l : Links). n < length l.entries) links-shown few in
      ap (λ (l : Links). slice_get l.entries n) links-shown
      ∙ slice_get-get_or (between span.from span.upto lists.entries.items) n entry own
      ∙ ap Some (get_or-take (span.upto - span.from) (drop span.from lists.entries.items) n entry (number-inside n few all).0 ∙ get_or-drop span.from lists.entries.items n entry ∙ sym is)
