-- The children of an open cell by their places.
use Rattle.std.proofs.Common.{◌*◌, ◌≡◌, ℕ, zero, suc, ◌+◌, ◌<◌, ◌≤◌, ◌/◌, ◌%◌, List, [], ◌∷◌, length, map, drop, get_or, Option, Some, None, refl, sym, ◌∙◌, ap, inl, inr, arith, Bor}
use Rattle.dump_io.specs.Limits.{usual}
use Rattle.std.specs.Prelude.{slice_get}
use Rattle.std.specs.Option.{option_map}
use Rattle.std.proofs.lemmas.Bool.{cases_lt}
use Rattle.std.proofs.lemmas.List.Sums.{sum_by-cons}
use Rattle.std.proofs.lemmas.Option.{slice_get-map, slice_get-get_or}
use Rattle.std.proofs.Math.Nat.{div-add-mod}
use Rattle.term_forms.specs.Elements.{Element, Nil}
use Rattle.term_forms.specs.Forms.{HeapForm, Tuple, Hash, Node}
use Rattle.heap_cells.specs.Cells.{Cell, cell_weight, weight_of, elements_in}
use Rattle.cell_records.specs.declared.cells.CellIx.{CellIx}
use Rattle.cell_records.specs.declared.cells.Slot.{Slot}
use Rattle.heap_cells.specs.HeapMap.{HeapMap, IsBounded, form_at, elements_at}
use Rattle.heap_cells.specs.Targets.{At, number, target, slot_target, IsWithin}
use Rattle.term_unfold.proofs.Targets.{no_slot, slot-leads, leads-at}
use Rattle.term_unfold.specs.Maps.{address_of}
use Rattle.term_unfold.specs.declared.children.Child.{Child as PlacedChild}
use Rattle.term_unfold.specs.declared.children.Child.TheVariants as placed
use Rattle.term_unfold.specs.Inner.Children.{members_in, HasMembers, found_elements, flat_children, child_shown, IsChildAt}
use Rattle.term_unfold.specs.Rules.{Child, Term, Item, terms, items, pairs}

-- a cell has no more elements than the heap weighs

weight-at : (heap : List Cell) (n : ℕ) → length (elements_at heap n) ≤ weight_of heap
weight-at [] n = omega arith
weight-at (c ∷ cs) zero = omega (arith, sum_by-cons cell_weight c cs)
weight-at (c ∷ cs) (suc n) = omega (arith, sum_by-cons cell_weight c cs, weight-at cs n)

pub elements-few : (heap : HeapMap) (n : ℕ) → IsBounded heap → length (elements_at heap.cells n) ≤ usual.dense
elements-few heap n bounded = omega (arith, bounded.weight, weight-at heap.cells n)

-- no child

pub child-none : (heap : List Cell) (children : List Child) (next most : ℕ) (found : Option PlacedChild) → found ≡ None → slice_get children next ≡ None → IsChildAt heap children next most found
child-none heap children next most None is past = record { child = sym past; placed = tt; few = tt }
child-none heap children next most (Some k) is past = cc

-- the child at a place

pub term-child : (heap : HeapMap) (ix : CellIx) (place : ℕ) (slots : List Slot) (slot : Bor Slot) → IsBounded heap → number ix < length heap.cells
    → place < length (elements_at heap.cells (number ix)) → map slot_target slots ≡ map (target heap.cells) (elements_at heap.cells (number ix))
    → get_or slots place no_slot ≡ slot.now → IsWithin (length heap.cells) (slot_target slot.now)
    → IsChildAt heap.cells (terms (elements_at heap.cells (number ix))) place usual.dense (Some (placed.Term slot ix place))
term-child heap ix place slots slot bounded cell within same is inside =
    let elements = elements_at heap.cells (number ix) in
    record {
      child = sym (slice_get-map Term elements place ∙ ap (option_map Term) (slice_get-get_or elements place Nil within));
      placed = record {
        at = record { cell = cell; within = within };
        leads = slot-leads heap.cells slots elements place slot.now same is;
        within = inside;
      };
      few = omega (arith, within, elements-few heap (number ix) bounded);
    }

pub item-child : (heap : HeapMap) (ix : CellIx) (place : ℕ) → IsBounded heap → number ix < length heap.cells → HasMembers (form_at heap.cells (number ix)) → members_in (form_at heap.cells (number ix)) ≡ elements_at heap.cells (number ix)
    → place < length (elements_at heap.cells (number ix))
    → IsChildAt heap.cells (items (address_of heap.cells (number ix)) (members_in (form_at heap.cells (number ix)))) place usual.dense (Some (placed.Item ix place))
item-child heap ix place bounded cell has are within =
    let elements = elements_at heap.cells (number ix) in
    let a = address_of heap.cells (number ix) in
    record {
      child = sym (ap (λ l. slice_get (items a l) place) are ∙ slice_get-map (Item a) elements place ∙ ap (option_map (Item a)) (slice_get-get_or elements place Nil within));
      placed = record { at = record { cell = cell; within = within }; kind = has };
      few = omega (arith, within, elements-few heap (number ix) bounded);
    }

pub members-are : (form : Option HeapForm) → HasMembers form → members_in form ≡ elements_in form
members-are (Some (Hash size children)) h = refl
members-are (Some (Tuple elements)) h = refl
members-are (Some (Node children)) h = refl
members-are form (inl h) = cc
members-are form (inr (inl h)) = cc
members-are form (inr (inr h)) = cc

-- keys and values

abbrev pub double : ℕ → ℕ
double zero = zero
double (suc i) = suc (suc (double i))

double-twice : (i : ℕ) → double i ≡ i + i
double-twice zero = refl
double-twice (suc i) = omega (arith, double-twice i)

pairs-key : (ks vs : List Element) (i : ℕ) (k v : Child) → slice_get (terms ks) i ≡ Some k → slice_get (terms vs) i ≡ Some v → slice_get (pairs ks vs) (double i) ≡ Some k
pairs-key [] vs i k v a b = cc
pairs-key (x ∷ ks) [] i k v a b = cc
pairs-key (x ∷ ks) (y ∷ vs) zero k v a b = a
pairs-key (x ∷ ks) (y ∷ vs) (suc i) k v a b = pairs-key ks vs i k v a b

pairs-value : (ks vs : List Element) (i : ℕ) (k v : Child) → slice_get (terms ks) i ≡ Some k → slice_get (terms vs) i ≡ Some v → slice_get (pairs ks vs) (suc (double i)) ≡ Some v
pairs-value [] vs i k v a b = cc
pairs-value (x ∷ ks) [] i k v a b = cc
pairs-value (x ∷ ks) (y ∷ vs) zero k v a b = b
pairs-value (x ∷ ks) (y ∷ vs) (suc i) k v a b = pairs-value ks vs i k v a b

pairs-no_key : (ks vs : List Element) (i : ℕ) → slice_get (terms ks) i ≡ None → (slice_get (pairs ks vs) (double i) ≡ None) × (slice_get (pairs ks vs) (suc (double i)) ≡ None)
pairs-no_key [] vs i a = (refl, refl)
pairs-no_key (x ∷ ks) [] i a = (refl, refl)
pairs-no_key (x ∷ ks) (y ∷ vs) zero a = cc
pairs-no_key (x ∷ ks) (y ∷ vs) (suc i) a = pairs-no_key ks vs i a

pairs-no_value : (ks vs : List Element) (i : ℕ) → slice_get (terms vs) i ≡ None → (slice_get (pairs ks vs) (double i) ≡ None) × (slice_get (pairs ks vs) (suc (double i)) ≡ None)
pairs-no_value [] vs i a = (refl, refl)
pairs-no_value (x ∷ ks) [] i a = (refl, refl)
pairs-no_value (x ∷ ks) (y ∷ vs) zero a = cc
pairs-no_value (x ∷ ks) (y ∷ vs) (suc i) a = pairs-no_value ks vs i a

behind-first : (es : List Element) (i : ℕ) → slice_get (terms (drop 1 es)) i ≡ slice_get (terms es) (i + 1)
behind-first [] i = refl
behind-first (e ∷ es) i =
    let next : suc i ≡ i + 1 = omega arith in
    ap (slice_get (terms (e ∷ es))) next

pub even : (place : ℕ) → place % 2 ≡ 0 → place ≡ double (place / 2)
even place h = omega (arith, h, double-twice (place / 2), div-add-mod place 2)

pub odd : (place : ℕ) → 0 < place % 2 → place ≡ suc (double (place / 2))
odd place h = omega (arith, h, double-twice (place / 2), div-add-mod place 2)

none-at : (ks vs : List Element) (place : ℕ) → (slice_get (pairs ks vs) (double (place / 2)) ≡ None) × (slice_get (pairs ks vs) (suc (double (place / 2))) ≡ None)
    → slice_get (pairs ks vs) place ≡ None
none-at ks vs place h =
    elim (cases_lt 0 (place % 2)) [
      | inl some ↦ ap (slice_get (pairs ks vs)) (odd place some) ∙ h.1
      | inr is ↦ ap (slice_get (pairs ks vs)) (even place (omega (arith, is))) ∙ h.0
    ]

small-place : (i place : ℕ) → i < usual.dense → i ≡ place / 2 → place < 2 * usual.dense
small-place i place h is = omega (arith, div-add-mod place 2)

pub key-none : (heap : List Cell) (ks es : List Element) (place most : ℕ) (found out : Option PlacedChild) → found ≡ None → IsChildAt heap (terms ks) (place / 2) most found → out ≡ None
    → IsChildAt heap (pairs ks (drop 1 es)) place (2 * usual.dense) out
key-none heap ks es place most found out none at is =
    child-none heap (pairs ks (drop 1 es)) place (2 * usual.dense) out is (none-at ks (drop 1 es) place (pairs-no_key ks (drop 1 es) (place / 2) (sym at.child ∙ ap (option_map (child_shown heap)) none)))

pub value-none : (heap : List Cell) (ks es : List Element) (place most : ℕ) (found out : Option PlacedChild) → found ≡ None → IsChildAt heap (terms es) (place / 2 + 1) most found → out ≡ None
    → IsChildAt heap (pairs ks (drop 1 es)) place (2 * usual.dense) out
value-none heap ks es place most found out none at is =
    child-none heap (pairs ks (drop 1 es)) place (2 * usual.dense) out is
    (none-at ks (drop 1 es) place (pairs-no_value ks (drop 1 es) (place / 2) (behind-first es (place / 2) ∙ sym at.child ∙ ap (option_map (child_shown heap)) none)))

pub key-child : (heap : List Cell) (ks es : List Element) (place : ℕ) (k v : PlacedChild) → IsChildAt heap (terms ks) (place / 2) usual.dense (Some k) → IsChildAt heap (terms es) (place / 2 + 1) usual.dense (Some v) → place % 2 ≡ 0
    → IsChildAt heap (pairs ks (drop 1 es)) place (2 * usual.dense) (Some k)
key-child heap ks es place k v key value h =
    record {
      child = sym (ap (slice_get (pairs ks (drop 1 es))) (even place h)
          ∙ pairs-key ks (drop 1 es) (place / 2) (child_shown heap k) (child_shown heap v) (sym key.child) (behind-first es (place / 2) ∙ sym value.child));
      placed = key.placed;
      few = small-place (place / 2) place key.few refl;
    }

pub value-child : (heap : List Cell) (ks es : List Element) (place : ℕ) (k v : PlacedChild) → IsChildAt heap (terms ks) (place / 2) usual.dense (Some k) → IsChildAt heap (terms es) (place / 2 + 1) usual.dense (Some v) → 0 < place % 2
    → IsChildAt heap (pairs ks (drop 1 es)) place (2 * usual.dense) (Some v)
value-child heap ks es place k v key value h =
    record {
      child = sym (ap (slice_get (pairs ks (drop 1 es))) (odd place h)
          ∙ pairs-value ks (drop 1 es) (place / 2) (child_shown heap k) (child_shown heap v) (sym key.child) (behind-first es (place / 2) ∙ sym value.child));
      placed = value.placed;
      few = small-place (place / 2) place key.few refl;
    }

-- a flat map whose keys element leads to a cell

pub flat_kids-at : (heap : List Cell) (es : List Element) (k : ℕ) → 0 < length es → target heap (get_or es 0 Nil) ≡ At k → flat_children heap es ≡ pairs (elements_at heap k) (drop 1 es)
flat_kids-at heap [] k some h = absurd (omega (arith, some))
flat_kids-at heap (e ∷ es) k some h =
    let to = leads-at heap k e h in
    ap (λ x. flat_children heap (x ∷ es)) to.element ∙ ap (λ f. pairs (found_elements f) es) to.form
