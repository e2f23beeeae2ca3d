-- More levels than cells that are no ancestors change nothing, so the unfolding follows the rules with no number of levels.
use Rattle.std.proofs.Common.{◌≡◌, ℕ, zero, suc, ◌+◌, ◌-◌, ◌<◌, ◌≤◌, Bool, true, false, cond, ◌||◌, eqb, List, [], ◌∷◌, length, get_or, Option, None, Some, refl, sym, ◌∙◌, ap, subst, inl, inr, arith}
use Rattle.std.specs.Prelude.{IsSome}
use Rattle.std.specs.Cmp.{nat_eq_equiv}
use Rattle.std.specs.Option.{option_map}
use Rattle.std.specs.List.{IsDistinct}
use Rattle.std.proofs.lemmas.Bool.{false≢true, or_cases, eqb-true}
use Rattle.std.proofs.lemmas.List.{length-map}
use Rattle.std.proofs.lemmas.List.Quantifiers.{position-Some}
use Rattle.std.proofs.lemmas.Map.Made.{length-le_from_is_member}
use Rattle.dump_io.specs.Laws.Lists.{none_passes}
use Rattle.term_forms.specs.Elements.{Element, Ref}
use Rattle.term_forms.specs.Forms.{HeapForm, Cons, Tuple, Flat, Hash, Node}
use Rattle.heap_cells.specs.Cells.{Cell, addresses}
use Rattle.heap_cells.specs.HeapMap.{number_at, form_at}
use Rattle.cell_records.specs.declared.cells.Why.TheVariants.{OnPath}
use Rattle.term_unfold.specs.Maps.{Keys, no_keys, keys_at, bad_keys, keys_of_map, cell_member, form_at_address}
use Rattle.term_unfold.specs.Laws.{IsPath}
use Rattle.term_unfold.specs.Rules.{Child, Term, Item, Opening, leaf, bad, node, is_on, unless_on, keyed, cell_opening, item_opening, opening}
use Rattle.term_unfold.specs.Trees.{Tree, Branch, more}
use Rattle.term_unfold.specs.Unfolding.{trees, grown_tree, unfold_by, unfolded}

-- a path is no longer than the heap

distinct : (heap : List Cell) (path : List ℕ) → IsPath heap path → IsDistinct eqb path
unfolding IsDistinct
distinct heap [] h = tt
distinct heap (a ∷ path) h = (none_passes (eqb a) path h.1, distinct heap path h.2)

no_cell : Cell
no_cell = record { address = 0; form = None }

-- a cell's address is one of the heap's
address-at : (a : ℕ) (heap : List Cell) (i : ℕ) → i < length heap → eqb (get_or heap i no_cell).address a ≡ true → is_on a (addresses heap) ≡ true
address-at a [] i within is = absurd (omega (arith, within))
address-at a (c ∷ cs) zero within is = ap (λ b. b || is_on a (addresses cs)) (nat_eq_equiv.symm a c.address ∙ is)
address-at a (c ∷ cs) (suc i) within is =
    elim (eqb a c.address) as (λ b. (b || is_on a (addresses cs)) ≡ true) [
      | true ↦ refl
      | false ↦ address-at a cs i (omega (arith, within)) is
    ]

-- the number of an address is that of one of the heap's
address-number : (a : ℕ) (heap : List Cell) (found : Option ℕ) → number_at heap a ≡ found → IsSome found → is_on a (addresses heap) ≡ true
address-number a heap None is some = absurd (false≢true some)
address-number a heap (Some i) is some =
    let at = position-Some (λ (c : Cell). eqb c.address a) heap i no_cell is in
    address-at a heap i at.0 at.1

on-heap : (heap : List Cell) (q : ℕ) (path : List ℕ) → IsPath heap path → is_on q path ≡ true → is_on q (addresses heap) ≡ true
on-heap heap q [] h on = absurd (false≢true on)
on-heap heap q (a ∷ path) h on =
    elim (or_cases (eqb q a) (is_on q path) on) [
      | inl e ↦ subst (λ x. is_on x (addresses heap) ≡ true) (sym (eqb-true q a e)) (address-number a heap (number_at heap a) refl h.0)
      | inr e ↦ on-heap heap q path h.2 e
    ]

pub length-path : (heap : List Cell) (path : List ℕ) → IsPath heap path → length path ≤ length heap
length-path heap path h =
    let few : length path ≤ length (addresses heap)
    = length-le_from_is_member nat_eq_equiv path (addresses heap) (distinct heap path h) (λ q. on-heap heap q path h) in
    omega (arith, few, length-map heap (λ (c : Cell). c.address))

-- the rules with no number of levels, where there are levels enough

-- there is a level for one cell more
pub levels-more : (heap : List Cell) (path : List ℕ) → length path ≤ length heap → suc (length heap) - length path ≡ suc (suc (length heap) - suc (length path))
levels-more heap path few = omega arith

pub unfolded-rule : (heap : List Cell) (path : List ℕ) (child : Child) → length path ≤ length heap
    → unfolded heap path child ≡ grown_tree (λ a. unfolded heap (a ∷ path)) (opening heap path child)
unfolding unfolded unfold_by
unfolded-rule heap path child few = ap (λ levels. unfold_by levels heap path child) (levels-more heap path few)

-- two ways to unfold the children of what was opened

trees-same : (f g : Child → Tree) (children : List Child) → ((child : Child) → f child ≡ g child) → trees f children ≡ trees g children
trees-same f g [] h = refl
trees-same f g (child ∷ children) h =
    ap (λ t. more t (trees f children)) (h child) ∙ ap (more (g child)) (trees-same f g children h)

-- a node is of a cell that lengthens the path
abbrev pub IsOpening : List Cell → List ℕ → Opening → Type 0
IsOpening heap path (leaf value) = Unit {0}
IsOpening heap path (bad a why) = Unit {0}
IsOpening heap path (node a kind children) = IsPath heap (a ∷ path)

grown-same : (heap : List Cell) (f g : ℕ → Child → Tree) (path : List ℕ) (o : Opening) → IsOpening heap path o
    → ((a : ℕ) (child : Child) → IsPath heap (a ∷ path) → f a child ≡ g a child) → grown_tree f o ≡ grown_tree g o
grown-same heap f g path (leaf value) is h = refl
grown-same heap f g path (bad a why) is h = refl
grown-same heap f g path (node a kind children) is h = ap (Branch kind) (trees-same (f a) (g a) children (λ child. h a child is))

unless-is : (heap : List Cell) (path : List ℕ) (b : Bool) (a : ℕ) (off : Opening) → (b ≡ false → IsOpening heap path off) → IsOpening heap path (cond b (bad a OnPath) off)
unless-is heap path true a off h = tt
unless-is heap path false a off h = h refl

off-is : (heap : List Cell) (above path : List ℕ) (e : Element) (off : Opening) → IsOpening heap path off → IsOpening heap path (unless_on above e off)
off-is heap above path (Ref a) off h = unless-is heap path (is_on a above) a off (λ _. h)
off-is heap above path e off h = h

keyed-is : (heap : List Cell) (path : List ℕ) (a : ℕ) (vs : List Element) (keys : Keys) → IsPath heap (a ∷ path) → IsOpening heap path (keyed a vs keys)
keyed-is heap path a vs no_keys is = is
keyed-is heap path a vs (keys_at k ks) is = is
keyed-is heap path a vs (bad_keys k why) is = tt

form-is : (heap : List Cell) (path : List ℕ) (a : ℕ) (form : Option HeapForm) → IsPath heap (a ∷ path) → IsOpening heap path (cell_opening heap path a (Some form))
form-is heap path a (Some (Cons head tail)) is = is
form-is heap path a (Some (Tuple elements)) is = is
form-is heap path a (Some (Flat keys [])) is = is
form-is heap path a (Some (Flat keys (v ∷ vs))) is =
    off-is heap (a ∷ path) path keys (keyed a (v ∷ vs) (keys_of_map heap a keys (v ∷ vs))) (keyed-is heap path a (v ∷ vs) (keys_of_map heap a keys (v ∷ vs)) is)
form-is heap path a (Some (Hash size children)) is = is
form-is heap path a form is = tt

member-is : (heap : List Cell) (path : List ℕ) (a : ℕ) (form : Option HeapForm) → IsPath heap (a ∷ path) → IsOpening heap path (item_opening (cell_member a (Some form)))
member-is heap path a (Some (Cons head tail)) is = is
member-is heap path a (Some (Tuple elements)) is = is
member-is heap path a (Some (Node children)) is = is
member-is heap path a form is = tt

-- a cell, by its number
cell-is : (heap : List Cell) (path : List ℕ) (a : ℕ) (number : Option ℕ) → (IsSome number → IsPath heap (a ∷ path)) → IsOpening heap path (cell_opening heap path a (option_map (form_at heap) number))
cell-is heap path a None is = tt
cell-is heap path a (Some n) is = form-is heap path a (form_at heap n) (is refl)

cell_member-is : (heap : List Cell) (path : List ℕ) (a : ℕ) (number : Option ℕ) → (IsSome number → IsPath heap (a ∷ path)) → IsOpening heap path (item_opening (cell_member a (option_map (form_at heap) number)))
cell_member-is heap path a None is = tt
cell_member-is heap path a (Some n) is = member-is heap path a (form_at heap n) (is refl)

pub opening-is : (heap : List Cell) (path : List ℕ) (child : Child) → IsPath heap path → IsOpening heap path (opening heap path child)
opening-is heap path (Term (Ref a)) is =
    unless-is heap path (is_on a path) a (cell_opening heap path a (form_at_address heap a)) (λ off. cell-is heap path a (number_at heap a) (λ some. (some, off, is)))
opening-is heap path (Item parent (Ref a)) is =
    unless-is heap path (is_on a path) a (item_opening (cell_member a (form_at_address heap a))) (λ off. cell_member-is heap path a (number_at heap a) (λ some. (some, off, is)))
opening-is heap path child is = tt

-- two numbers of levels that are enough give the same tree
pub levels-enough : (m n : ℕ) (heap : List Cell) (path : List ℕ) (child : Child) → IsPath heap path → length heap < m + length path → length heap < n + length path
    → unfold_by m heap path child ≡ unfold_by n heap path child
unfolding unfold_by
levels-enough zero n heap path child is a b = absurd (omega (arith, a, length-path heap path is))
levels-enough (suc m) zero heap path child is a b = absurd (omega (arith, b, length-path heap path is))
levels-enough (suc m) (suc n) heap path child is a b =
    grown-same heap (λ a. unfold_by m heap (a ∷ path)) (λ a. unfold_by n heap (a ∷ path)) path (opening heap path child) (opening-is heap path child is)
    (λ c below longer. levels-enough m n heap (c ∷ path) below longer (omega (arith, a)) (omega (arith, b)))

pub enough : (levels : ℕ) (heap : List Cell) (path : List ℕ) (child : Child) → IsPath heap path → length heap < levels + length path
    → unfold_by levels heap path child ≡ unfolded heap path child
unfolding unfolded
enough levels heap path child is h =
    levels-enough levels (suc (length heap) - length path) heap path child is h (omega (arith, length-path heap path is))

pub follows_rules : (heap : List Cell) (path : List ℕ) (child : Child) → IsPath heap path → unfolded heap path child ≡ grown_tree (λ a. unfolded heap (a ∷ path)) (opening heap path child)
follows_rules heap path child is = unfolded-rule heap path child (length-path heap path is)
