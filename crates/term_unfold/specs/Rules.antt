-- What an element opens below its ancestors: the rules of the unfolding, one level deep.
use Rattle.std.specs.Prelude.{ℕ, Bool, eqb, List, [], ◌∷◌, map, Option, None, Some, if◌then◌else◌}
use Rattle.std.specs.List.{list_any}
use Rattle.term_forms.specs.Elements.{Element, Ref}
use Rattle.term_forms.specs.Forms.{HeapForm, Cons, Tuple, Flat, Hash, Node}
use Rattle.heap_cells.specs.Cells.{Cell}
use Rattle.cell_records.specs.declared.cells.Why.{Why}
use Rattle.cell_records.specs.declared.cells.Why.TheVariants.{Missing, Malformed, OnPath}
use Rattle.term_unfold.specs.Maps.{Keys, no_keys, keys_at, bad_keys, keys_of_map, Member, pair_at, inner_at, bad_member, member_of, form_at_address}
use Rattle.term_unfold.specs.declared.node.NodeKind.{NodeKind}
use Rattle.term_unfold.specs.declared.node.NodeKind.TheVariants as kinds
use Rattle.term_unfold.specs.Trees.{Value, Immediate, OfCell}

-- a child of a node: a term, or an item of the hash map or the inner node at an address
pub data Child : Type 0 where
  Term : Element → Child
  Item : ℕ → Element → Child

-- a leaf, a bad address, or a node at an address with its children
pub data Opening : Type 0 where
  leaf : Value → Opening
  bad : ℕ → Why → Opening
  node : ℕ → NodeKind → List Child → Opening

-- whether an address is that of an ancestor
abbrev pub is_on : ℕ → List ℕ → Bool
is_on a path = list_any (eqb a) path

-- a reference to an ancestor is bad, whatever its cell is
abbrev pub unless_on : List ℕ → Element → Opening → Opening
unless_on path (Ref a) off = if is_on a path then bad a OnPath else off
unless_on path element off = off

-- children that unfold as terms
abbrev pub terms : List Element → List Child
terms elements = map Term elements

-- children of a map's node, which know the address of their parent
abbrev pub items : ℕ → List Element → List Child
items parent elements = map (Item parent) elements

-- key, value, key, value and so on
abbrev pub pairs : List Element → List Element → List Child
pairs (key ∷ keys) (value ∷ values) = Term key ∷ Term value ∷ pairs keys values
pairs keys values = []

-- a flat map, from its keys
abbrev pub keyed : ℕ → List Element → Keys → Opening
keyed a values no_keys = node a kinds.Flat []
keyed a values (keys_at k keys) = node a kinds.Flat (pairs keys values)
keyed a values (bad_keys k why) = bad k why

-- a flat map; it is itself among the ancestors of the tuple
-- of its keys, but that tuple is no ancestor of the keys
abbrev pub flat_opening : List Cell → List ℕ → ℕ → Element → List Element → Opening
flat_opening heap path a keys [] = keyed a [] no_keys
flat_opening heap path a keys (value ∷ values) =
    unless_on (a ∷ path) keys (keyed a (value ∷ values) (keys_of_map heap a keys (value ∷ values)))

-- what the cell at an address opens as a term, if that is no ancestor's; if no cell has the address, it is missing
abbrev pub cell_opening : List Cell → List ℕ → ℕ → Option (Option HeapForm) → Opening
cell_opening heap path a None = bad a Missing
cell_opening heap path a (Some None) = bad a Malformed
cell_opening heap path a (Some (Some (Cons head tail))) = node a kinds.Cons (terms (head ∷ tail ∷ []))
cell_opening heap path a (Some (Some (Tuple elements))) = node a kinds.Tuple (terms elements)
cell_opening heap path a (Some (Some (Flat keys values))) = flat_opening heap path a keys values
cell_opening heap path a (Some (Some (Hash size children))) = node a kinds.Hash (items a children)
cell_opening heap path a (Some (Some (Node children))) = bad a Malformed
cell_opening heap path a (Some (Some form)) = leaf (OfCell a form)

-- what an element opens: a reference opens its cell, and any other element is a leaf
abbrev pub term_opening : List Cell → List ℕ → Element → Opening
term_opening heap path (Ref a) = cell_opening heap path a (form_at_address heap a)
term_opening heap path element = leaf (Immediate element)

-- a child of a hash map or of an inner node
abbrev pub item_opening : Member → Opening
item_opening (pair_at a key value) = node a kinds.Pair (terms (key ∷ value ∷ []))
item_opening (inner_at a children) = node a kinds.Inner (items a children)
item_opening (bad_member a why) = bad a why

-- what a child opens below its ancestors
abbrev pub opening : List Cell → List ℕ → Child → Opening
opening heap path (Term element) = unless_on path element (term_opening heap path element)
opening heap path (Item parent element) = unless_on path element (item_opening (member_of heap parent element))
