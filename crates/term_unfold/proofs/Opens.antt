-- What a child opens, by what the walk sees of its cell.
use Rattle.std.proofs.Common.{◌≡◌, ℕ, ◌-◌, ◌<◌, ◌≤◌, Bool, true, false, cond, ◌||◌, not, eqb, ltb, List, [], ◌∷◌, length, take, drop, get_or, Option, Some, None, refl, sym, ◌∙◌, ap, subst, inl, inr, arith}
use Rattle.std.specs.Option.{option_map, unwrap_or}
use Rattle.std.specs.List.{IsDistinct, position_or_len}
use Rattle.std.proofs.lemmas.Bool.{cases_eq, cases_lt, eq-eqb, ne_eqb, lt-ltb, ltb-false, not-true}
use Rattle.std.proofs.lemmas.List.{length-map}
use Rattle.std.proofs.lemmas.Map.Keys.{apart_from_distinct}
use Rattle.std.proofs.lemmas.Option.{slice_get-map, slice_get-get_or, unwrap_or-slice_get}
use Rattle.std.proofs.lemmas.List.Sums.{position_or_len_is, prefix_len_passes}
use Rattle.std.specs.Cmp.{nat_eq_equiv}
use Rattle.term_forms.specs.Elements.{Element, Nil, Ref}
use Rattle.term_forms.specs.Forms.{HeapForm, Cons, Tuple, Flat, Hash, Node}
use Rattle.heap_cells.specs.Cells.{Cell, addresses, elements_in, kind_of}
use Rattle.cell_records.specs.declared.cells.Kind.{Kind}
use Rattle.cell_records.specs.declared.cells.Kind.TheVariants as cell_kind
use Rattle.cell_records.specs.declared.cells.Why.TheVariants.{Missing, Malformed, OnPath}
use Rattle.heap_cells.specs.HeapMap.{HeapMap, number_at, form_at, elements_at}
use Rattle.heap_cells.specs.Targets.{Imm, At, number, target}
use Rattle.term_unfold.proofs.Targets.{leads-at, leads-nowhere}
use Rattle.term_unfold.specs.Kinds.{are_keys, item_kind, term_kind}
use Rattle.term_unfold.specs.declared.kinds.TermKind.TheVariants as term
use Rattle.term_unfold.specs.Maps.{Keys, no_keys, keys_at, bad_keys, keys_of_map, cell_keys, element_keys, cell_member, member_of, address_of, form_at_address}
use Rattle.term_unfold.specs.declared.node.NodeKind.{NodeKind}
use Rattle.term_unfold.specs.declared.node.NodeKind.TheVariants as kinds
use Rattle.term_unfold.specs.declared.path.Entry.{Entry}
use Rattle.term_unfold.specs.Inner.Entries.{Entered, numbers_of, path_of, is_item, IsLine}
use Rattle.term_unfold.specs.declared.openings.Opened.{Opened}
use Rattle.term_unfold.specs.declared.openings.Opened.TheVariants as opened
use Rattle.term_unfold.specs.Inner.Children.{children_of, members_in, found_elements, flat_children}
use Rattle.term_unfold.specs.Inner.Openings.{is_leaf_form, Opens}
use Rattle.term_unfold.specs.Rules.{Term, Item, leaf, bad, node, is_on, unless_on, terms, items, pairs, keyed, cell_opening, term_opening, item_opening, opening}
use Rattle.term_unfold.specs.Trees.{OfCell}
use Rattle.term_unfold.proofs.ChildFacts.{flat_kids-at}
use Rattle.std.proofs.Math.Bool.{or-true}

-- addresses and numbers

address-get : (heap : List Cell) (n : ℕ) → address_of heap n ≡ get_or (addresses heap) n 0
address-get heap n = ap (λ o. unwrap_or o 0) (sym (slice_get-map (λ (c : Cell). c.address) heap n)) ∙ unwrap_or-slice_get (addresses heap) n 0

apart : (heap : List Cell) (m n : ℕ) → IsDistinct eqb (addresses heap) → m < n → n < length heap → eqb (address_of heap m) (address_of heap n) ≡ false
apart heap m n distinct lt within =
    ap (λ a. eqb a (address_of heap n)) (address-get heap m) ∙ ap (eqb (get_or (addresses heap) m 0)) (address-get heap n)
    ∙ apart_from_distinct eqb (addresses heap) m n 0 distinct lt (omega (arith, within, length-map heap (λ (c : Cell). c.address)))

-- two cells have one address exactly where they are one
address-eqb : (heap : List Cell) (m n : ℕ) → IsDistinct eqb (addresses heap) → m < length heap → n < length heap → eqb (address_of heap m) (address_of heap n) ≡ eqb m n
address-eqb heap m n distinct a b =
    elim (cases_eq m n) [
      | inl same ↦ eq-eqb (address_of heap m) (address_of heap n) (ap (address_of heap) same) ∙ sym (eq-eqb m n same)
      | inr other ↦ elim (cases_lt m n) [
        | inl lt ↦ apart heap m n distinct lt b ∙ sym (ne_eqb m n other)
        | inr ge ↦ nat_eq_equiv.symm (address_of heap m) (address_of heap n) ∙ apart heap n m distinct (omega (arith, ge, other)) a ∙ sym (ne_eqb m n other)
      ]
    ]

pub on-path : (heap : List Cell) (n : ℕ) (entries : List Entry) → IsDistinct eqb (addresses heap) → n < length heap → IsLine (length heap) (numbers_of entries)
    → is_on (address_of heap n) (path_of heap entries) ≡ is_on n (numbers_of entries)
on-path heap n [] distinct within line = refl
on-path heap n (e ∷ es) distinct within line =
    ap (λ b. b || is_on (address_of heap n) (path_of heap es)) (address-eqb heap n (number e.cell) distinct within line.0)
    ∙ ap (λ b. eqb n (number e.cell) || b) (on-path heap n es distinct within line.2)

pub on-longer : (a b : ℕ) (path : List ℕ) → is_on b path ≡ true → is_on b (a ∷ path) ≡ true
on-longer a b path on = ap (λ x. eqb b a || x) on ∙ or-true (eqb b a)

pub off-longer : (a b : ℕ) (path : List ℕ) → eqb b a ≡ false → is_on b path ≡ false → is_on b (a ∷ path) ≡ false
off-longer a b path other off = ap (λ x. x || is_on b path) other ∙ off

pub off-other : (heap : List Cell) (m n : ℕ) → IsDistinct eqb (addresses heap) → m < length heap → n < length heap → (m ≡ n → ⊥) → eqb (address_of heap m) (address_of heap n) ≡ false
off-other heap m n distinct a b other = address-eqb heap m n distinct a b ∙ ne_eqb m n other

-- a reference to an ancestor, and one to another cell

pub item-on : (heap : List Cell) (path : List ℕ) (parent k : ℕ) (e : Element) → target heap e ≡ At k → is_on (address_of heap k) path ≡ true → opening heap path (Item parent e) ≡ bad (address_of heap k) OnPath
item-on heap path parent k e leads on =
    let b = address_of heap k in
    ap (λ x. opening heap path (Item parent x)) (leads-at heap k e leads).element ∙ ap (λ o. cond o (bad b OnPath) (item_opening (member_of heap parent (Ref b)))) on

pub member-at : (heap : List Cell) (parent k : ℕ) (e : Element) → target heap e ≡ At k → member_of heap parent e ≡ cell_member (address_of heap k) (Some (form_at heap k))
member-at heap parent k e leads =
    let to = leads-at heap k e leads in
    ap (member_of heap parent) to.element ∙ ap (cell_member (address_of heap k)) to.form

pub item-at : (heap : List Cell) (path : List ℕ) (parent k : ℕ) (e : Element) → target heap e ≡ At k → is_on (address_of heap k) path ≡ false
    → opening heap path (Item parent e) ≡ item_opening (cell_member (address_of heap k) (Some (form_at heap k)))
item-at heap path parent k e leads off =
    let b = address_of heap k in
    ap (λ x. opening heap path (Item parent x)) (leads-at heap k e leads).element ∙ ap (λ o. cond o (bad b OnPath) (item_opening (member_of heap parent (Ref b)))) off
    ∙ ap item_opening (ap (member_of heap parent) (sym (leads-at heap k e leads).element) ∙ member-at heap parent k e leads)

-- an element that leads nowhere, or to no cell

pub item-plain : (heap : List Cell) (path : List ℕ) (parent : ℕ) (e : Element) → target heap e ≡ Imm → opening heap path (Item parent e) ≡ bad parent Malformed
item-plain heap path parent e h =
    leads-nowhere (λ e. opening heap path (Item parent e) ≡ bad parent Malformed) heap e h refl (λ _. refl) (λ _. refl) (λ _. refl) (λ _. refl)

-- an address that no cell has is no ancestor's

no_cell : Cell
no_cell = record { address = 0; form = None }

address-cell : (heap : List Cell) (n : ℕ) → n < length heap → address_of heap n ≡ (get_or heap n no_cell).address
address-cell heap n within = ap (λ o. unwrap_or (option_map (λ (c : Cell). c.address) o) 0) (slice_get-get_or heap n no_cell within)

cond-none : (b : Bool) (k : ℕ) → cond b (Some k) None ≡ None → b ≡ false
cond-none true k h = cc
cond-none false k h = refl

-- no cell has the address
address-none : (heap : List Cell) (b n : ℕ) → number_at heap b ≡ None → n < length heap → eqb b (address_of heap n) ≡ false
address-none heap b n none within =
    let p = λ (c : Cell). eqb c.address b in
    let past : length heap ≤ position_or_len p heap = ltb-false (position_or_len p heap) (length heap) (cond-none (ltb (position_or_len p heap) (length heap)) (position_or_len p heap) none) in
    let fails : not (eqb (get_or heap n no_cell).address b) ≡ true = prefix_len_passes (λ (c : Cell). not (eqb c.address b)) heap n no_cell (omega (arith, past, within)) in
    ap (eqb b) (address-cell heap n within) ∙ nat_eq_equiv.symm b (get_or heap n no_cell).address ∙ not-true (eqb (get_or heap n no_cell).address b) fails

off-path : (heap : List Cell) (b : ℕ) (entries : List Entry) → number_at heap b ≡ None → IsLine (length heap) (numbers_of entries) → is_on b (path_of heap entries) ≡ false
off-path heap b [] none line = refl
off-path heap b (e ∷ es) none line =
    ap (λ x. x || is_on b (path_of heap es)) (address-none heap b (number e.cell) none line.0) ∙ off-path heap b es none line.2

none-number : (heap : List Cell) (found : Option ℕ) → option_map (form_at heap) found ≡ None → found ≡ None
none-number heap None h = refl
none-number heap (Some n) h = cc

off-missing : (heap : List Cell) (b : ℕ) (entries : List Entry) → form_at_address heap b ≡ None → IsLine (length heap) (numbers_of entries) → is_on b (path_of heap entries) ≡ false
off-missing heap b entries none line = off-path heap b entries (none-number heap (number_at heap b) none) line

-- the same below one cell more
pub off-missing_below : (heap : List Cell) (b n : ℕ) (entries : List Entry) → form_at_address heap b ≡ None → IsLine (length heap) (n ∷ numbers_of entries) → is_on b (address_of heap n ∷ path_of heap entries) ≡ false
off-missing_below heap b n entries none line =
    ap (λ x. x || is_on b (path_of heap entries)) (address-none heap b n (none-number heap (number_at heap b) none) line.0) ∙ off-missing heap b entries none line.2

term-missing : (heap : List Cell) (path : List ℕ) (e : Element) (b : ℕ) → e ≡ Ref b → is_on b path ≡ false → form_at_address heap b ≡ None → opening heap path (Term e) ≡ bad b Missing
term-missing heap path e b is off none =
    ap (λ e. opening heap path (Term e)) is ∙ ap (λ x. cond x (bad b OnPath) (term_opening heap path (Ref b))) off ∙ ap (cell_opening heap path b) none

item-missing : (heap : List Cell) (path : List ℕ) (parent : ℕ) (e : Element) (b : ℕ) → e ≡ Ref b → is_on b path ≡ false → form_at_address heap b ≡ None → opening heap path (Item parent e) ≡ bad b Missing
item-missing heap path parent e b is off none =
    ap (λ e. opening heap path (Item parent e)) is ∙ ap (λ x. cond x (bad b OnPath) (item_opening (member_of heap parent (Ref b)))) off ∙ ap (λ f. item_opening (cell_member b f)) none

-- what is found there
module _ (heap : HeapMap) (path : Entered) (b : ℕ) {found : Opened} (is : found ≡ opened.Bad b Missing) (size : path.cells ≡ length heap.cells)
    (line : IsLine path.cells (numbers_of path.entries)) (none : form_at_address heap.cells b ≡ None) where
  off : is_on b (path_of heap.cells path.entries) ≡ false
  off = off-missing heap.cells b path.entries none (subst (λ m. IsLine m (numbers_of path.entries)) size line)

  pub term-none : (e : Element) → e ≡ Ref b → Opens heap path (Term e) found
  term-none e to = subst (Opens heap path (Term e)) (sym is) (record { found_is = term-missing heap.cells _ e b to off none; enters = tt })

  pub item-none : (parent : ℕ) (e : Element) → e ≡ Ref b → Opens heap path (Item parent e) found
  item-none parent e to = subst (Opens heap path (Item parent e)) (sym is) (record { found_is = item-missing heap.cells _ parent e b to off none; enters = tt })

-- each cell is found by its address

pub number-is : (heap : List Cell) (n : ℕ) → IsDistinct eqb (addresses heap) → n < length heap → number_at heap (address_of heap n) ≡ Some n
number-is heap n distinct within =
    let a = address_of heap n in
    let p = λ (c : Cell). eqb c.address a in
    let place : position_or_len p heap ≡ n
    = position_or_len_is p heap n no_cell (omega (arith, within))
    (λ k lt. let inside : k < length heap = omega (arith, lt, within) in
    ap (λ b. eqb b a) (sym (address-cell heap k inside)) ∙ apart heap k n distinct lt within)
    (λ lt. ap (λ b. eqb b a) (sym (address-cell heap n within)) ∙ eq-eqb a a refl) in
    ap (λ k. cond (ltb k (length heap)) (Some k) None) place ∙ ap (λ b. cond b (Some n) None) (lt-ltb n (length heap) within)

form-is : (heap : List Cell) (n : ℕ) → IsDistinct eqb (addresses heap) → n < length heap → form_at_address heap (address_of heap n) ≡ Some (form_at heap n)
form-is heap n distinct within = ap (option_map (form_at heap)) (number-is heap n distinct within)

pub term-at : (heap : List Cell) (path : List ℕ) (n : ℕ) → is_on (address_of heap n) path ≡ false → IsDistinct eqb (addresses heap) → n < length heap
    → opening heap path (Term (Ref (address_of heap n))) ≡ cell_opening heap path (address_of heap n) (Some (form_at heap n))
term-at heap path n off distinct within =
    let a = address_of heap n in
    ap (λ b. cond b (bad a OnPath) (term_opening heap path (Ref a))) off ∙ ap (cell_opening heap path a) (form-is heap n distinct within)

-- the openings of forms, by their kinds

form-list : (heap : List Cell) (path : List ℕ) (a : ℕ) (form : Option HeapForm) → option_map kind_of form ≡ Some cell_kind.List → cell_opening heap path a (Some form) ≡ node a kinds.Cons (terms (take 2 (elements_in form)))
form-list heap path a None h = cc
form-list heap path a (Some (Cons head tail)) h = refl
form-list heap path a (Some form) h = cc

form-tuple : (heap : List Cell) (path : List ℕ) (a : ℕ) (form : Option HeapForm) → option_map kind_of form ≡ Some cell_kind.Tuple → cell_opening heap path a (Some form) ≡ node a kinds.Tuple (terms (elements_in form))
form-tuple heap path a None h = cc
form-tuple heap path a (Some (Tuple elements)) h = refl
form-tuple heap path a (Some form) h = cc

form-hash : (heap : List Cell) (path : List ℕ) (a : ℕ) (form : Option HeapForm) → option_map kind_of form ≡ Some cell_kind.Hash → cell_opening heap path a (Some form) ≡ node a kinds.Hash (items a (members_in form))
form-hash heap path a None h = cc
form-hash heap path a (Some (Hash size children)) h = refl
form-hash heap path a (Some form) h = cc

-- a cell that is a node as a term
pub record IsTermNode (heap : List Cell) (path : List ℕ) (n : ℕ) (kind : NodeKind) : Type 0 where
  pub fits : is_item kind ≡ false
  pub opens : cell_opening heap path (address_of heap n) (Some (form_at heap n)) ≡ node (address_of heap n) kind (children_of heap kind n)

pub node-opens : (heap : List Cell) (path : List ℕ) (n : ℕ) (found : Option Kind) (kind : NodeKind) → option_map kind_of (form_at heap n) ≡ found → term_kind found ≡ term.Node kind → IsTermNode heap path n kind
node-opens heap path n None kind is h = cc
node-opens heap path n (Some cell_kind.List) kind is h =
    let same : kinds.Cons ≡ kind = cc in subst (IsTermNode heap path n) same (record { fits = refl; opens = form-list heap path (address_of heap n) (form_at heap n) is })
node-opens heap path n (Some cell_kind.Tuple) kind is h =
    let same : kinds.Tuple ≡ kind = cc in subst (IsTermNode heap path n) same (record { fits = refl; opens = form-tuple heap path (address_of heap n) (form_at heap n) is })
node-opens heap path n (Some cell_kind.Hash) kind is h =
    let same : kinds.Hash ≡ kind = cc in subst (IsTermNode heap path n) same (record { fits = refl; opens = form-hash heap path (address_of heap n) (form_at heap n) is })
node-opens heap path n (Some found) kind is h = cc

pub malformed-opens : (heap : List Cell) (path : List ℕ) (a : ℕ) (form : Option HeapForm) → term_kind (option_map kind_of form) ≡ term.Malformed → cell_opening heap path a (Some form) ≡ bad a Malformed
malformed-opens heap path a None h = refl
malformed-opens heap path a (Some (Node children)) h = refl
malformed-opens heap path a (Some form) h = cc

pub flat-kind : (found : Option Kind) → term_kind found ≡ term.Flat → found ≡ Some cell_kind.Flat
flat-kind None h = cc
flat-kind (Some cell_kind.Flat) h = refl
flat-kind (Some found) h = cc

-- a form that has no children
pub record IsLeafForm (heap : List Cell) (path : List ℕ) (a : ℕ) (form : Option HeapForm) : Type 0 where
  pub leaf_form : HeapForm
  pub form_is : form ≡ Some leaf_form
  pub is_leaf : is_leaf_form leaf_form ≡ true
  pub opens : cell_opening heap path a (Some form) ≡ leaf (OfCell a leaf_form)

pub leaf-opens : (heap : List Cell) (path : List ℕ) (a : ℕ) (form : Option HeapForm) → term_kind (option_map kind_of form) ≡ term.Leaf → IsLeafForm heap path a form
leaf-opens heap path a None h = cc
leaf-opens heap path a (Some (Cons head tail)) h = cc
leaf-opens heap path a (Some (Tuple elements)) h = cc
leaf-opens heap path a (Some (Flat keys values)) h = cc
leaf-opens heap path a (Some (Hash size children)) h = cc
leaf-opens heap path a (Some (Node children)) h = cc
leaf-opens heap path a (Some form) h = record { leaf_form = form; form_is = refl; is_leaf = refl; opens = refl }

-- flat maps

pairs-none : (ks : List Element) → pairs ks [] ≡ []
pairs-none [] = refl
pairs-none (k ∷ ks) = refl

flat-alone : (heap : List Cell) (keys : Element) → flat_children heap (keys ∷ []) ≡ []
flat-alone heap (Ref k) = pairs-none (found_elements (form_at_address heap k))
flat-alone heap keys = refl

-- the keys of a form, if it is that of a flat map
abbrev form_keys : List Cell → ℕ → Option HeapForm → Keys
form_keys heap map (Some (Flat keys values)) = keys_of_map heap map keys values
form_keys heap map form = no_keys

pub flat-empty : (heap : List Cell) (path : List ℕ) (a : ℕ) (form : Option HeapForm) → option_map kind_of form ≡ Some cell_kind.Flat → length (elements_in form) < 2
    → cell_opening heap path a (Some form) ≡ node a kinds.Flat (flat_children heap (elements_in form))
flat-empty heap path a None h few = cc
flat-empty heap path a (Some (Flat keys [])) h few = ap (node a kinds.Flat) (sym (flat-alone heap keys))
flat-empty heap path a (Some (Flat keys (v ∷ vs))) h few = absurd (omega (arith, few))
flat-empty heap path a (Some form) h few = cc

-- the keys element of a flat map that has values is opened below the map
pub flat-some : (heap : List Cell) (path : List ℕ) (a : ℕ) (form : Option HeapForm) → option_map kind_of form ≡ Some cell_kind.Flat → 2 ≤ length (elements_in form)
    → cell_opening heap path a (Some form) ≡ unless_on (a ∷ path) (get_or (elements_in form) 0 Nil) (keyed a (drop 1 (elements_in form)) (form_keys heap a form))
flat-some heap path a None h some = cc
flat-some heap path a (Some (Flat keys [])) h some = absurd (omega (arith, some))
flat-some heap path a (Some (Flat keys (v ∷ vs))) h some = refl
flat-some heap path a (Some form) h some = cc

keys-some : (heap : List Cell) (a : ℕ) (form : Option HeapForm) → option_map kind_of form ≡ Some cell_kind.Flat → 2 ≤ length (elements_in form)
    → form_keys heap a form ≡ element_keys heap a (length (elements_in form) - 1) (get_or (elements_in form) 0 Nil)
keys-some heap a None h some = cc
keys-some heap a (Some (Flat keys [])) h some = absurd (omega (arith, some))
keys-some heap a (Some (Flat keys (v ∷ vs))) h some =
    let size : length (v ∷ vs) ≡ length (keys ∷ v ∷ vs) - 1 = omega arith in
    ap (λ n. element_keys heap a n keys) size
keys-some heap a (Some form) h some = cc

pub flat-plain : (heap : List Cell) (path : List ℕ) (a : ℕ) (form : Option HeapForm) → option_map kind_of form ≡ Some cell_kind.Flat → 2 ≤ length (elements_in form) → target heap (get_or (elements_in form) 0 Nil) ≡ Imm
    → cell_opening heap path a (Some form) ≡ bad a Malformed
flat-plain heap path a form h some plain =
    flat-some heap path a form h some
    ∙ ap (λ k. unless_on (a ∷ path) (get_or (elements_in form) 0 Nil) (keyed a (drop 1 (elements_in form)) k)) (keys-some heap a form h some)
    ∙ leads-nowhere (λ e. unless_on (a ∷ path) e (keyed a (drop 1 (elements_in form)) (element_keys heap a (length (elements_in form) - 1) e)) ≡ bad a Malformed) heap (get_or (elements_in form) 0 Nil) plain
    refl (λ _. refl) (λ _. refl) (λ _. refl) (λ _. refl)

-- the keys element refers to an address
flat-ref : (heap : List Cell) (path : List ℕ) (a b : ℕ) (form : Option HeapForm) (found : Option (Option HeapForm)) → option_map kind_of form ≡ Some cell_kind.Flat → 2 ≤ length (elements_in form)
    → get_or (elements_in form) 0 Nil ≡ Ref b → form_at_address heap b ≡ found
    → cell_opening heap path a (Some form) ≡ cond (is_on b (a ∷ path)) (bad b OnPath) (keyed a (drop 1 (elements_in form)) (cell_keys b (length (elements_in form) - 1) found))
flat-ref heap path a b form found h some is with_is =
    flat-some heap path a form h some
    ∙ ap (λ k. unless_on (a ∷ path) (get_or (elements_in form) 0 Nil) (keyed a (drop 1 (elements_in form)) k)) (keys-some heap a form h some)
    ∙ ap (λ e. unless_on (a ∷ path) e (keyed a (drop 1 (elements_in form)) (element_keys heap a (length (elements_in form) - 1) e))) is
    ∙ ap (λ f. cond (is_on b (a ∷ path)) (bad b OnPath) (keyed a (drop 1 (elements_in form)) (cell_keys b (length (elements_in form) - 1) f))) with_is

pub flat-on : (heap : List Cell) (path : List ℕ) (a k : ℕ) (form : Option HeapForm) → option_map kind_of form ≡ Some cell_kind.Flat → 2 ≤ length (elements_in form)
    → target heap (get_or (elements_in form) 0 Nil) ≡ At k → is_on (address_of heap k) (a ∷ path) ≡ true → cell_opening heap path a (Some form) ≡ bad (address_of heap k) OnPath
flat-on heap path a k form h some leads on =
    let b = address_of heap k in
    flat-ref heap path a b form (form_at_address heap b) h some (leads-at heap k (get_or (elements_in form) 0 Nil) leads).element refl
    ∙ ap (λ x. cond x (bad b OnPath) (keyed a (drop 1 (elements_in form)) (cell_keys b (length (elements_in form) - 1) (form_at_address heap b)))) on

pub flat-missing : (heap : List Cell) (path : List ℕ) (a b : ℕ) (form : Option HeapForm) → option_map kind_of form ≡ Some cell_kind.Flat → 2 ≤ length (elements_in form)
    → get_or (elements_in form) 0 Nil ≡ Ref b → is_on b (a ∷ path) ≡ false → form_at_address heap b ≡ None → cell_opening heap path a (Some form) ≡ bad b Missing
flat-missing heap path a b form h some is off none =
    flat-ref heap path a b form None h some is none
    ∙ ap (λ x. cond x (bad b OnPath) (bad b Missing)) off

-- a cell that holds the keys, and one that doesn't
keys-fit : (b size : ℕ) (form : Option HeapForm) → are_keys (option_map kind_of form) (length (elements_in form)) size ≡ true → cell_keys b size (Some form) ≡ keys_at b (elements_in form)
keys-fit b size None h = cc
keys-fit b size (Some (Tuple elements)) h = ap (λ x. cond x (keys_at b elements) (bad_keys b Malformed)) h
keys-fit b size (Some form) h = cc

keys-unfit : (b size : ℕ) (form : Option HeapForm) → are_keys (option_map kind_of form) (length (elements_in form)) size ≡ false → cell_keys b size (Some form) ≡ bad_keys b Malformed
keys-unfit b size None h = refl
keys-unfit b size (Some (Tuple elements)) h = ap (λ x. cond x (keys_at b elements) (bad_keys b Malformed)) h
keys-unfit b size (Some form) h = refl

-- the keys element refers to a cell that isn't an ancestor
flat-found : (heap : List Cell) (path : List ℕ) (a k : ℕ) (form : Option HeapForm) → option_map kind_of form ≡ Some cell_kind.Flat → 2 ≤ length (elements_in form)
    → target heap (get_or (elements_in form) 0 Nil) ≡ At k → is_on (address_of heap k) (a ∷ path) ≡ false
    → cell_opening heap path a (Some form) ≡ keyed a (drop 1 (elements_in form)) (cell_keys (address_of heap k) (length (elements_in form) - 1) (Some (form_at heap k)))
flat-found heap path a k form h some leads off =
    let b = address_of heap k in
    let to = leads-at heap k (get_or (elements_in form) 0 Nil) leads in
    flat-ref heap path a b form (Some (form_at heap k)) h some to.element to.form
    ∙ ap (λ x. cond x (bad b OnPath) (keyed a (drop 1 (elements_in form)) (cell_keys b (length (elements_in form) - 1) (Some (form_at heap k))))) off

pub flat-keyed : (heap : List Cell) (path : List ℕ) (a k : ℕ) (form : Option HeapForm) → option_map kind_of form ≡ Some cell_kind.Flat → 2 ≤ length (elements_in form)
    → target heap (get_or (elements_in form) 0 Nil) ≡ At k → is_on (address_of heap k) (a ∷ path) ≡ false
    → are_keys (option_map kind_of (form_at heap k)) (length (elements_at heap k)) (length (elements_in form) - 1) ≡ true
    → cell_opening heap path a (Some form) ≡ node a kinds.Flat (flat_children heap (elements_in form))
flat-keyed heap path a k form h some leads off fit =
    let elements = elements_in form in
    flat-found heap path a k form h some leads off
    ∙ ap (keyed a (drop 1 elements)) (keys-fit (address_of heap k) (length elements - 1) (form_at heap k) fit)
    ∙ ap (node a kinds.Flat) (sym (flat_kids-at heap elements k (omega (arith, some)) leads))

pub flat-bad : (heap : List Cell) (path : List ℕ) (a k : ℕ) (form : Option HeapForm) → option_map kind_of form ≡ Some cell_kind.Flat → 2 ≤ length (elements_in form)
    → target heap (get_or (elements_in form) 0 Nil) ≡ At k → is_on (address_of heap k) (a ∷ path) ≡ false
    → are_keys (option_map kind_of (form_at heap k)) (length (elements_at heap k)) (length (elements_in form) - 1) ≡ false
    → cell_opening heap path a (Some form) ≡ bad (address_of heap k) Malformed
flat-bad heap path a k form h some leads off unfit =
    flat-found heap path a k form h some leads off
    ∙ ap (keyed a (drop 1 (elements_in form))) (keys-unfit (address_of heap k) (length (elements_in form) - 1) (form_at heap k) unfit)

-- items

item-pair : (a : ℕ) (form : Option HeapForm) → option_map kind_of form ≡ Some cell_kind.List → item_opening (cell_member a (Some form)) ≡ node a kinds.Pair (terms (take 2 (elements_in form)))
item-pair a None h = cc
item-pair a (Some (Cons head tail)) h = refl
item-pair a (Some form) h = cc

item-tuple : (a : ℕ) (form : Option HeapForm) → option_map kind_of form ≡ Some cell_kind.Tuple → item_opening (cell_member a (Some form)) ≡ node a kinds.Inner (items a (members_in form))
item-tuple a None h = cc
item-tuple a (Some (Tuple elements)) h = refl
item-tuple a (Some form) h = cc

item-inner : (a : ℕ) (form : Option HeapForm) → option_map kind_of form ≡ Some cell_kind.Node → item_opening (cell_member a (Some form)) ≡ node a kinds.Inner (items a (members_in form))
item-inner a None h = cc
item-inner a (Some (Node children)) h = refl
item-inner a (Some form) h = cc

-- a cell that is a node as an item of a hash map
pub record IsItemNode (heap : List Cell) (n : ℕ) (kind : NodeKind) : Type 0 where
  pub fits : is_item kind ≡ true
  pub opens : item_opening (cell_member (address_of heap n) (Some (form_at heap n))) ≡ node (address_of heap n) kind (children_of heap kind n)

pub item-opens : (heap : List Cell) (n : ℕ) (found : Option Kind) (kind : NodeKind) → option_map kind_of (form_at heap n) ≡ found → item_kind found ≡ Some kind → IsItemNode heap n kind
item-opens heap n None kind is h = cc
item-opens heap n (Some cell_kind.List) kind is h =
    let same : kinds.Pair ≡ kind = cc in subst (IsItemNode heap n) same (record { fits = refl; opens = item-pair (address_of heap n) (form_at heap n) is })
item-opens heap n (Some cell_kind.Tuple) kind is h =
    let same : kinds.Inner ≡ kind = cc in subst (IsItemNode heap n) same (record { fits = refl; opens = item-tuple (address_of heap n) (form_at heap n) is })
item-opens heap n (Some cell_kind.Node) kind is h =
    let same : kinds.Inner ≡ kind = cc in subst (IsItemNode heap n) same (record { fits = refl; opens = item-inner (address_of heap n) (form_at heap n) is })
item-opens heap n (Some found) kind is h = cc

pub item-bad : (a : ℕ) (form : Option HeapForm) → item_kind (option_map kind_of form) ≡ None → item_opening (cell_member a (Some form)) ≡ bad a Malformed
item-bad a None h = refl
item-bad a (Some (Cons head tail)) h = cc
item-bad a (Some (Tuple elements)) h = cc
item-bad a (Some (Node children)) h = cc
item-bad a (Some form) h = refl
