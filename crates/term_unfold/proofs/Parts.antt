-- A part of a heap gives the answers of the whole heap, up to the first node that asks for a cell that only the whole has.
use Rattle.std.proofs.Common.{◌≡◌, ◌⊎◌, inl, inr, ℕ, zero, suc, ◌+◌, ◌-◌, ◌<◌, true, false, cond, if◌then◌else◌, List, [], ◌∷◌, length, Option, None, Some, IsSome, is_some, refl, sym, ◌∙◌, ap, subst, arith}
use Rattle.std.specs.Option.{option_map}
use Rattle.term_forms.specs.Elements.{Element, Ref}
use Rattle.term_forms.specs.Forms.{HeapForm, Cons, Tuple, Flat, Hash, Node}
use Rattle.heap_cells.specs.Cells.{Cell}
use Rattle.heap_cells.specs.HeapMap.{number_at, form_at}
use Rattle.cell_records.specs.declared.cells.Why.TheVariants.{Missing, OnPath}
use Rattle.term_unfold.specs.Maps.{Keys, no_keys, keys_at, bad_keys, cell_keys, element_keys, Member, pair_at, inner_at, bad_member, cell_member, member_of, form_at_address}
use Rattle.term_unfold.specs.declared.gaps.Asked.TheVariants.{CellAt}
use Rattle.term_unfold.specs.Laws.{IsPath}
use Rattle.term_unfold.specs.Parts.{IsPartOfHeap, has_cell, known_in, is_lacking, gap_at, gap_of}
use Rattle.term_unfold.specs.Rules.{Child, Term, Item, Opening, leaf, bad, node, is_on, unless_on, keyed, cell_opening, item_opening, opening}
use Rattle.term_unfold.specs.Text.{show}
use Rattle.term_unfold.specs.Trees.{Value, Immediate, OfCell, Tree, verdict}
use Rattle.term_unfold.specs.Unfolding.{trees, grown_tree, unfold_by, unfolded, unfolding_of}
use Rattle.term_unfold.proofs.FirstNodes.{same_faces}
use Rattle.term_unfold.proofs.PartFaces.{Fills, FillAll, AgreeOn, alike, bad_face, verdict-faces}
use Rattle.term_unfold.proofs.Levels.{length-path, opening-is, IsOpening}
use Rattle.term_unfold.proofs.Suiting.{unfolded-suits}

-- ---- one address

-- the part knows what the whole has at an address, or lacks it
abbrev pub Knows : List Cell → List Cell → ℕ → Type 0
Knows part whole a = (form_at_address whole a ≡ form_at_address part a) ⊎ ((form_at_address part a ≡ None) × (is_lacking (known_in whole) part (CellAt a) ≡ true))

pub knows : (part whole : List Cell) (a : ℕ) → IsPartOfHeap part whole → Knows part whole a
knows part whole a is = by (number_at part a) refl (number_at whole a) refl
  where
    by : (m : Option ℕ) → number_at part a ≡ m → (k : Option ℕ) → number_at whole a ≡ k → Knows part whole a
    by (Some i) at k of = inl (sym (is.forms a (ap is_some at)))
    by None at None of = inl (ap (option_map (form_at whole)) of ∙ sym (ap (option_map (form_at part)) at))
    by None at (Some k) of = inr (ap (option_map (form_at part)) at, ap (λ o. if is_some o then false else has_cell whole a) at ∙ ap is_some of)

pub some-form : (heap : List Cell) (n : Option ℕ) → is_some (option_map (form_at heap) n) ≡ is_some n
some-form heap None = refl
some-form heap (Some i) = refl

-- the whole has each cell of the part
has-whole : (part whole : List Cell) (a : ℕ) → IsPartOfHeap part whole → IsSome (number_at part a) → IsSome (number_at whole a)
has-whole part whole a is some =
    sym (some-form whole (number_at whole a)) ∙ ap is_some (sym (is.forms a some)) ∙ some-form part (number_at part a) ∙ some

path-whole : (part whole : List Cell) (path : List ℕ) → IsPartOfHeap part whole → IsPath part path → IsPath whole path
path-whole part whole [] is h = tt
path-whole part whole (a ∷ path) is h = (has-whole part whole a is h.0, h.1, path-whole part whole path is h.2)

-- ---- one level

-- what a child opens over the whole is what it opens over the part, or that asks for a cell that the part lacks
abbrev Follows : List Cell → List Cell → Opening → Opening → Type 0
Follows part whole o p = (p ≡ o) ⊎ ((a : ℕ) × (o ≡ bad a Missing) × (is_lacking (known_in whole) part (CellAt a) ≡ true))

off-follows : (part whole : List Cell) (path : List ℕ) (e : Element) (o p : Opening) → Follows part whole o p → Follows part whole (unless_on path e o) (unless_on path e p)
off-follows part whole path (Ref a) o p h =
    elim (is_on a path) as (λ b. Follows part whole (cond b (bad a OnPath) o) (cond b (bad a OnPath) p)) [ true ↦ inl refl | false ↦ h ]
off-follows part whole path e o p h = h

-- the keys of a flat map that has values
keys-follow : (part whole : List Cell) (a : ℕ) (keys v : Element) (vs : List Element) → IsPartOfHeap part whole
    → Follows part whole (keyed a (v ∷ vs) (element_keys part a (length (v ∷ vs)) keys)) (keyed a (v ∷ vs) (element_keys whole a (length (v ∷ vs)) keys))
keys-follow part whole a (Ref k) v vs is = by (knows part whole k is)
  where
    by : Knows part whole k
        → Follows part whole (keyed a (v ∷ vs) (element_keys part a (length (v ∷ vs)) (Ref k))) (keyed a (v ∷ vs) (element_keys whole a (length (v ∷ vs)) (Ref k)))
    by (inl same) = inl (ap (λ f. keyed a (v ∷ vs) (cell_keys k (length (v ∷ vs)) f)) same)
    by (inr lack) = inr (k, ap (λ f. keyed a (v ∷ vs) (cell_keys k (length (v ∷ vs)) f)) lack.0, lack.1)
keys-follow part whole a keys v vs is = inl refl

cell-follows : (part whole : List Cell) (path : List ℕ) (a : ℕ) (form : Option (Option HeapForm)) → IsPartOfHeap part whole
    → Follows part whole (cell_opening part path a form) (cell_opening whole path a form)
cell-follows part whole path a (Some (Some (Flat keys (v ∷ vs)))) is =
    off-follows part whole (a ∷ path) keys (keyed a (v ∷ vs) (element_keys part a (length (v ∷ vs)) keys)) (keyed a (v ∷ vs) (element_keys whole a (length (v ∷ vs)) keys))
    (keys-follow part whole a keys v vs is)
cell-follows part whole path a form is = inl refl

term-follows : (part whole : List Cell) (path : List ℕ) (a : ℕ) → IsPartOfHeap part whole → Knows part whole a
    → Follows part whole (cell_opening part path a (form_at_address part a)) (cell_opening whole path a (form_at_address whole a))
term-follows part whole path a is (inl same) =
    subst (λ f. Follows part whole (cell_opening part path a (form_at_address part a)) (cell_opening whole path a f)) (sym same)
    (cell-follows part whole path a (form_at_address part a) is)
term-follows part whole path a is (inr lack) = inr (a, ap (cell_opening part path a) lack.0, lack.1)

item-follows : (part whole : List Cell) (a : ℕ) → Knows part whole a
    → Follows part whole (item_opening (cell_member a (form_at_address part a))) (item_opening (cell_member a (form_at_address whole a)))
item-follows part whole a (inl same) = inl (ap (λ f. item_opening (cell_member a f)) same)
item-follows part whole a (inr lack) = inr (a, ap (λ f. item_opening (cell_member a f)) lack.0, lack.1)

opening-follows : (part whole : List Cell) (path : List ℕ) (child : Child) → IsPartOfHeap part whole → Follows part whole (opening part path child) (opening whole path child)
opening-follows part whole path (Term (Ref a)) is =
    off-follows part whole path (Ref a) (cell_opening part path a (form_at_address part a)) (cell_opening whole path a (form_at_address whole a))
    (term-follows part whole path a is (knows part whole a is))
opening-follows part whole path (Item parent (Ref a)) is =
    off-follows part whole path (Ref a) (item_opening (cell_member a (form_at_address part a))) (item_opening (cell_member a (form_at_address whole a)))
    (item-follows part whole a (knows part whole a is))
opening-follows part whole path child is = inl refl

-- ---- leaves are of the part's cells

abbrev pub IsLeafOf : List Cell → Value → Type 0
IsLeafOf heap (Immediate e) = Unit {0}
IsLeafOf heap (OfCell a form) = form_at_address heap a ≡ Some (Some form)

abbrev OpensLeafOf : List Cell → Opening → Type 0
OpensLeafOf heap (leaf value) = IsLeafOf heap value
OpensLeafOf heap (bad a why) = Unit {0}
OpensLeafOf heap (node a kind children) = Unit {0}

off-leaf : (heap : List Cell) (path : List ℕ) (e : Element) (o : Opening) → OpensLeafOf heap o → OpensLeafOf heap (unless_on path e o)
off-leaf heap path (Ref a) o h = elim (is_on a path) as (λ b. OpensLeafOf heap (cond b (bad a OnPath) o)) [ true ↦ tt | false ↦ h ]
off-leaf heap path e o h = h

keys-leaf : (heap : List Cell) (a : ℕ) (vs : List Element) (keys : Keys) → OpensLeafOf heap (keyed a vs keys)
keys-leaf heap a vs no_keys = tt
keys-leaf heap a vs (keys_at k ks) = tt
keys-leaf heap a vs (bad_keys k why) = tt

cell-leaf : (heap : List Cell) (path : List ℕ) (a : ℕ) (form : Option (Option HeapForm)) → form_at_address heap a ≡ form → OpensLeafOf heap (cell_opening heap path a form)
cell-leaf heap path a None is = tt
cell-leaf heap path a (Some None) is = tt
cell-leaf heap path a (Some (Some (Cons head tail))) is = tt
cell-leaf heap path a (Some (Some (Tuple elements))) is = tt
cell-leaf heap path a (Some (Some (Flat keys []))) is = tt
cell-leaf heap path a (Some (Some (Flat keys (v ∷ vs)))) is =
    off-leaf heap (a ∷ path) keys (keyed a (v ∷ vs) (element_keys heap a (length (v ∷ vs)) keys)) (keys-leaf heap a (v ∷ vs) (element_keys heap a (length (v ∷ vs)) keys))
cell-leaf heap path a (Some (Some (Hash size children))) is = tt
cell-leaf heap path a (Some (Some (Node children))) is = tt
cell-leaf heap path a (Some (Some form)) is = is

member-leaf : (heap : List Cell) (member : Member) → OpensLeafOf heap (item_opening member)
member-leaf heap (pair_at a key value) = tt
member-leaf heap (inner_at a children) = tt
member-leaf heap (bad_member a why) = tt

opening-leaf : (heap : List Cell) (path : List ℕ) (child : Child) → OpensLeafOf heap (opening heap path child)
opening-leaf heap path (Term (Ref a)) = off-leaf heap path (Ref a) (cell_opening heap path a (form_at_address heap a)) (cell-leaf heap path a (form_at_address heap a) refl)
opening-leaf heap path (Item parent e) = off-leaf heap path e (item_opening (member_of heap parent e)) (member-leaf heap (member_of heap parent e))
opening-leaf heap path child = tt

-- ---- the whole's tree is the part's tree with its gaps filled

abbrev FillsOver : List Cell → List Cell → Tree → Tree → Type 0
FillsOver part whole = Fills (gap_at (known_in whole) part) (IsLeafOf part)

trees-fill : (part whole : List Cell) (f g : Child → Tree) (children : List Child) → ((child : Child) → FillsOver part whole (f child) (g child))
    → FillAll (gap_at (known_in whole) part) (IsLeafOf part) (trees f children) (trees g children)
trees-fill part whole f g [] h = tt
trees-fill part whole f g (child ∷ children) h = (h child, trees-fill part whole f g children h)

opened-fills : (part whole : List Cell) (f g : ℕ → Child → Tree) (path : List ℕ) (o : Opening) → OpensLeafOf part o → IsOpening part path o
    → ((a : ℕ) (child : Child) → IsPath part (a ∷ path) → FillsOver part whole (f a child) (g a child)) → FillsOver part whole (grown_tree f o) (grown_tree g o)
opened-fills part whole f g path (leaf value) of is h = (refl, of)
opened-fills part whole f g path (bad a why) of is h = inl refl
opened-fills part whole f g path (node a kind children) of is h = (trees (g a) children, refl, trees-fill part whole (f a) (g a) children (λ child. h a child is))

grown-fills : (part whole : List Cell) (f g : ℕ → Child → Tree) (path : List ℕ) (o p : Opening) → Follows part whole o p → OpensLeafOf part o → IsOpening part path o
    → ((a : ℕ) (child : Child) → IsPath part (a ∷ path) → FillsOver part whole (f a child) (g a child)) → FillsOver part whole (grown_tree f o) (grown_tree g p)
grown-fills part whole f g path o p (inl same) of is h =
    subst (λ q. FillsOver part whole (grown_tree f o) (grown_tree g q)) (sym same) (opened-fills part whole f g path o of is h)
grown-fills part whole f g path o p (inr lack) of is h =
    subst (λ q. FillsOver part whole (grown_tree f q) (grown_tree g p)) (sym lack.1) (inr (ap (λ b. is_some (if b then Some lack.0 else None)) lack.2))

levels-fill : (m k : ℕ) (part whole : List Cell) (path : List ℕ) (child : Child) → IsPartOfHeap part whole → IsPath part path → length part < m + length path → length whole < k + length path
    → FillsOver part whole (unfold_by m part path child) (unfold_by k whole path child)
unfolding unfold_by
levels-fill zero k part whole path child of is a b = absurd (omega (arith, a, length-path part path is))
levels-fill (suc m) zero part whole path child of is a b = absurd (omega (arith, b, length-path whole path (path-whole part whole path of is)))
levels-fill (suc m) (suc k) part whole path child of is a b =
    grown-fills part whole (λ a. unfold_by m part (a ∷ path)) (λ a. unfold_by k whole (a ∷ path)) path (opening part path child) (opening whole path child)
    (opening-follows part whole path child of) (opening-leaf part path child) (opening-is part path child is)
    (λ c below longer. levels-fill m k part whole (c ∷ path) below of longer (omega (arith, a)) (omega (arith, b)))

unfoldings-fill : (part whole : List Cell) (root : Element) → IsPartOfHeap part whole → FillsOver part whole (unfolding_of part root) (unfolding_of whole root)
unfolding unfolded
unfoldings-fill part whole root is =
    levels-fill (suc (length part) - 0) (suc (length whole) - 0) part whole [] (Term root) is tt (omega arith) (omega arith)

-- ---- the verdict and the text

pub same-verdict : (part whole : List Cell) (text text' : Value → List ℕ) (root : Element) (n : ℕ) → IsPartOfHeap part whole
    → AgreeOn (gap_at (known_in whole) part) (IsLeafOf part) text text' → gap_of (known_in whole) part root n ≡ None
    → verdict (unfolding_of part root) n ≡ verdict (unfolding_of whole root) n
same-verdict part whole text text' root n is same h =
    verdict-faces text (unfolding_of part root) n
    ∙ ap bad_face (alike (gap_at (known_in whole) part) (IsLeafOf part) text text' n (unfolding_of part root) (unfolding_of whole root) same (unfoldings-fill part whole root is) h)
    ∙ sym (verdict-faces text' (unfolding_of whole root) n)

pub same-show : (part whole : List Cell) (text text' : Value → List ℕ) (root : Element) (n : ℕ) → IsPartOfHeap part whole
    → AgreeOn (gap_at (known_in whole) part) (IsLeafOf part) text text' → gap_of (known_in whole) part root n ≡ None
    → show text (unfolding_of part root) n ≡ show text' (unfolding_of whole root) n
same-show part whole text text' root n is same h =
    same_faces text text' (unfolding_of part root) (unfolding_of whole root) n (unfolded-suits part [] (Term root)) (unfolded-suits whole [] (Term root))
    (alike (gap_at (known_in whole) part) (IsLeafOf part) text text' n (unfolding_of part root) (unfolding_of whole root) same (unfoldings-fill part whole root is) h)
