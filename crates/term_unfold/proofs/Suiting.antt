-- What a term unfolds to is a term, and what a child of a hash map unfolds to is an item.
use Rattle.std.proofs.Common.{ℕ, zero, suc, ◌-◌, List, [], ◌∷◌, length, Option, None, Some, refl, true, false, cond}
use Rattle.term_forms.specs.Elements.{Element, Ref}
use Rattle.term_forms.specs.Forms.{HeapForm, Cons, Tuple, Flat, Hash}
use Rattle.heap_cells.specs.Cells.{Cell}
use Rattle.cell_records.specs.declared.cells.Why.{Why}
use Rattle.cell_records.specs.declared.cells.Why.TheVariants.{OnPath}
use Rattle.term_unfold.specs.Maps.{Keys, no_keys, keys_at, bad_keys, keys_of_map, Member, pair_at, inner_at, bad_member, member_of, form_at_address}
use Rattle.term_unfold.specs.Laws.{Suits}
use Rattle.term_unfold.specs.Rules.{Child, Term, Item, Opening, bad, is_on, unless_on, terms, items, pairs, keyed, cell_opening, term_opening, item_opening, opening}
use Rattle.term_unfold.specs.Terms.{IsTerm, IsItem, AreTerms, AreItems}
use Rattle.term_unfold.specs.Trees.{Tree, Bad}
use Rattle.term_unfold.specs.Unfolding.{trees, grown_tree, unfold_by, unfolded}

terms-suit : (f : Child → Tree) (es : List Element) → ((child : Child) → Suits child (f child)) → AreTerms (trees f (terms es))
terms-suit f [] h = tt
terms-suit f (e ∷ es) h = (h (Term e), terms-suit f es h)

items-suit : (f : Child → Tree) (parent : ℕ) (es : List Element) → ((child : Child) → Suits child (f child)) → AreItems (trees f (items parent es))
items-suit f parent [] h = tt
items-suit f parent (e ∷ es) h = (h (Item parent e), items-suit f parent es h)

pairs-suit : (f : Child → Tree) (ks vs : List Element) → ((child : Child) → Suits child (f child)) → AreTerms (trees f (pairs ks vs))
pairs-suit f [] vs h = tt
pairs-suit f (k ∷ ks) [] h = tt
pairs-suit f (k ∷ ks) (v ∷ vs) h = (h (Term k), (h (Term v), pairs-suit f ks vs h))

-- trees that suit their children, below every address
abbrev AllSuit : (ℕ → Child → Tree) → Type 0
AllSuit below = (a : ℕ) (child : Child) → Suits child (below a child)

keyed-suits : (below : ℕ → Child → Tree) (a : ℕ) (vs : List Element) (keys : Keys) → AllSuit below → IsTerm (grown_tree below (keyed a vs keys))
keyed-suits below a vs no_keys h = tt
keyed-suits below a vs (keys_at k ks) h = pairs-suit (below a) ks vs (h a)
keyed-suits below a vs (bad_keys k why) h = tt

off-suits : (below : ℕ → Child → Tree) (path : List ℕ) (e : Element) (off : Opening) → IsTerm (grown_tree below off) → IsTerm (grown_tree below (unless_on path e off))
off-suits below path (Ref a) off h = elim (is_on a path) as (λ b. IsTerm (grown_tree below (cond b (bad a OnPath) off))) [ true ↦ tt | false ↦ h ]
off-suits below path e off h = h

off-suits_item : (below : ℕ → Child → Tree) (path : List ℕ) (e : Element) (off : Opening) → IsItem (grown_tree below off) → IsItem (grown_tree below (unless_on path e off))
off-suits_item below path (Ref a) off h = elim (is_on a path) as (λ b. IsItem (grown_tree below (cond b (bad a OnPath) off))) [ true ↦ tt | false ↦ h ]
off-suits_item below path e off h = h

form-suits : (below : ℕ → Child → Tree) (heap : List Cell) (path : List ℕ) (a : ℕ) (form : Option HeapForm) → AllSuit below → IsTerm (grown_tree below (cell_opening heap path a (Some form)))
form-suits below heap path a (Some (Cons head tail)) h = (refl, terms-suit (below a) (head ∷ tail ∷ []) (h a))
form-suits below heap path a (Some (Tuple elements)) h = terms-suit (below a) elements (h a)
form-suits below heap path a (Some (Flat keys (v ∷ vs))) h =
    off-suits below (a ∷ path) keys (keyed a (v ∷ vs) (keys_of_map heap a keys (v ∷ vs))) (keyed-suits below a (v ∷ vs) (keys_of_map heap a keys (v ∷ vs)) h)
form-suits below heap path a (Some (Hash size children)) h = items-suit (below a) a children (h a)
form-suits below heap path a form h = tt

cell-suits : (below : ℕ → Child → Tree) (heap : List Cell) (path : List ℕ) (a : ℕ) (found : Option (Option HeapForm)) → AllSuit below → IsTerm (grown_tree below (cell_opening heap path a found))
cell-suits below heap path a None h = tt
cell-suits below heap path a (Some form) h = form-suits below heap path a form h

term-suits : (below : ℕ → Child → Tree) (heap : List Cell) (path : List ℕ) (e : Element) → AllSuit below → IsTerm (grown_tree below (term_opening heap path e))
term-suits below heap path (Ref a) h = cell-suits below heap path a (form_at_address heap a) h
term-suits below heap path e h = tt

item-suits : (below : ℕ → Child → Tree) (member : Member) → AllSuit below → IsItem (grown_tree below (item_opening member))
item-suits below (pair_at a key value) h = (refl, terms-suit (below a) (key ∷ value ∷ []) (h a))
item-suits below (inner_at a children) h = items-suit (below a) a children (h a)
item-suits below (bad_member a why) h = tt

opening-suits : (below : ℕ → Child → Tree) (heap : List Cell) (path : List ℕ) (child : Child) → AllSuit below → Suits child (grown_tree below (opening heap path child))
opening-suits below heap path (Term e) h = off-suits below path e (term_opening heap path e) (term-suits below heap path e h)
opening-suits below heap path (Item parent e) h = off-suits_item below path e (item_opening (member_of heap parent e)) (item-suits below (member_of heap parent e) h)

bad-suits : (child : Child) (a : ℕ) (why : Why) → Suits child (Bad a why)
bad-suits (Term e) a why = tt
bad-suits (Item parent e) a why = tt

levels-suit : (levels : ℕ) (heap : List Cell) (path : List ℕ) (child : Child) → Suits child (unfold_by levels heap path child)
unfolding unfold_by
levels-suit zero heap path child = bad-suits child 0 OnPath
levels-suit (suc levels) heap path child = opening-suits (λ a. unfold_by levels heap (a ∷ path)) heap path child (λ a below. levels-suit levels heap (a ∷ path) below)

pub unfolded-suits : (heap : List Cell) (path : List ℕ) (child : Child) → Suits child (unfolded heap path child)
unfolding unfolded
unfolded-suits heap path child = levels-suit (suc (length heap) - length path) heap path child
