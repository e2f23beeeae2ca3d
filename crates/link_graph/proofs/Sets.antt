-- Sets of kinds.
use Rattle.std.proofs.Common.{◌≡◌, ℕ, ◌<◌, Bool, true, false, rules, List, [], ◌∷◌, length, get_or, map, ltb, refl, sym, ◌∙◌, ap, arith}
use Rattle.std.specs.Prelude.{Result, Ok, Err, is_ok}
use Rattle.std.specs.List.{list_any}
use Rattle.std.specs.List.Sorted.{IsBinarySearchResult, IsSearchInRange, IsPartitionPoint}
use Rattle.std.specs.Cmp.{IsTotalOrder}
use Rattle.std.specs.Ordering.{is_eq}
use Rattle.std.specs.declared.cmp.Ordering.{Ordering}
use Rattle.std.specs.declared.cmp.Ordering.TheVariants.{Less, Equal, Greater}
use Rattle.std.proofs.lemmas.Bool.{ltb-true, ltb-false}
use Rattle.std.proofs.lemmas.List.Folds.{list_any_at, list_any_none}
use Rattle.std.proofs.lemmas.List.Sorted.{searchable_from_sorted}
use Rattle.link_graph.specs.contracts.shapes.EntryKindPartialEq.TheImpl as block
use Rattle.link_graph.specs.contracts.shapes.EntryKindOrd.TheImpl as order
use Rattle.link_graph.specs.contracts.shapes.EntryKindOrd.TheImpl.Laws as order_laws
use Rattle.link_graph.specs.declared.shapes.EntryKind.{EntryKind}
use Rattle.link_graph.specs.Inner.Orders.{AreInOrder}
use Rattle.link_graph.specs.Seen.{shown_kind}
use Rattle.link_graph.specs.Kinds.{is_same_kind}

-- kinds that are lent are equal where their values are the same
eq-same : (one two : EntryKind) → block.ghosts.eq one two ≡ is_same_kind (shown_kind one) (shown_kind two)
eq-same one two = search rules

-- and they compare as equal where they are
cmp-same : (one two : EntryKind) → is_eq (order.ghosts.cmp one two) ≡ is_same_kind (shown_kind one) (shown_kind two)
cmp-same one two = sym (order_laws.matches_eq-law one two) ∙ eq-same one two

total : IsTotalOrder order.ghosts.cmp
total = order_laws.total-law

cmp-swapped : (one two : EntryKind) → is_eq (order.ghosts.cmp two one) ≡ is_same_kind (shown_kind one) (shown_kind two)
cmp-swapped one two = sym (reversed (order.ghosts.cmp one two) (order.ghosts.cmp two one) (total.antisymm one two)) ∙ cmp-same one two
  where
    reversed : (a b : Ordering) → a ≡ Rattle.std.specs.Ordering.ordering_reverse b → is_eq a ≡ is_eq b
    reversed a Less is = ap is_eq is
    reversed a Equal is = ap is_eq is
    reversed a Greater is = ap is_eq is

-- so a list has a kind where its values have it
pub list_any-shown : (wanted : EntryKind) (kinds : List EntryKind) → list_any (λ kind. is_eq (order.ghosts.cmp kind wanted)) kinds ≡ list_any (is_same_kind (shown_kind wanted)) (map shown_kind kinds)
list_any-shown wanted [] = refl
list_any-shown wanted (kind ∷ kinds) = grind (arith, list_any-shown wanted kinds, cmp-swapped)

-- what a search by the order says
pub searched : (kinds : List EntryKind) (wanted : EntryKind) (r : Result ℕ ℕ) → AreInOrder kinds → IsSearchInRange r (length kinds)
    → IsBinarySearchResult (λ kind. order.ghosts.cmp kind wanted) kinds r → is_ok r ≡ list_any (λ kind. is_eq (order.ghosts.cmp kind wanted)) kinds
searched kinds wanted (Ok at) ordered range found =
    sym (list_any_at (λ kind. is_eq (order.ghosts.cmp kind wanted)) kinds at wanted range (ap is_eq (found wanted)))
searched kinds wanted (Err at) ordered range found =
    let point = found (searchable_from_sorted total (λ (kind : EntryKind). kind) kinds wanted ordered) in
    sym (list_any_none (λ kind. is_eq (order.ghosts.cmp kind wanted)) kinds (λ k d inside. sides point k d inside (ltb k at) refl))
  where
    sides : IsPartitionPoint (λ (kind : EntryKind). order.ghosts.cmp kind wanted ≡ Less) (λ (kind : EntryKind). order.ghosts.cmp kind wanted ≡ Greater) kinds at
        → (k : ℕ) (d : EntryKind) → k < length kinds → (b : Bool) → ltb k at ≡ b → is_eq (order.ghosts.cmp (get_or kinds k d) wanted) ≡ false
    sides point k d inside true e = ap is_eq (point.0 k d (omega arith) (ltb-true k at e))
    sides point k d inside false e = ap is_eq (point.1 k d (ltb-false k at e) inside)
