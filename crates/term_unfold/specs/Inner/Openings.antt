-- What the walk finds when it comes to a child.
use Rattle.std.specs.Prelude.{◌≡◌, ℕ, ◌<◌, Bool, true, false, List, ◌∷◌, length, Option, None, Some}
use Rattle.term_forms.specs.Elements.{Element, Ref}
use Rattle.term_forms.specs.Forms.{HeapForm, Cons, Tuple, Flat, Hash, Node}
use Rattle.heap_cells.specs.Cells.{Cell}
use Rattle.heap_cells.specs.HeapMap.{HeapMap, form_at}
use Rattle.cell_records.specs.declared.cells.CellIx.{CellIx}
use Rattle.heap_cells.specs.Targets.{number, target, Target, At}
use Rattle.term_unfold.specs.Maps.{address_of, element_at}
use Rattle.term_unfold.specs.declared.node.NodeKind.{NodeKind}
use Rattle.term_unfold.specs.declared.node.NodeKind.TheVariants as kinds
use Rattle.term_unfold.specs.declared.openings.Opened.{Opened}
use Rattle.term_unfold.specs.declared.openings.Opened.TheVariants as opened
use Rattle.term_unfold.specs.Inner.Entries.{Entered, numbers_of, path_of, is_item, IsLine}
use Rattle.term_unfold.specs.Inner.Children.{children_of}
use Rattle.term_unfold.specs.Rules.{is_on, Child, Term, Item, leaf, bad, node, opening}
use Rattle.term_unfold.specs.Places.{is_nil}
use Rattle.term_unfold.specs.Trees.{Immediate, OfCell}

abbrev pub element_of : Child → Element
element_of (Term element) = element
element_of (Item parent element) = element

abbrev pub is_item_child : Child → Bool
is_item_child (Term element) = false
is_item_child (Item parent element) = true

-- an element that is no reference
abbrev pub is_immediate : Element → Bool
is_immediate (Ref address) = false
is_immediate element = true

-- a form without children, whose cell is a leaf
abbrev pub is_leaf_form : HeapForm → Bool
is_leaf_form (Cons head tail) = false
is_leaf_form (Tuple elements) = false
is_leaf_form (Flat keys values) = false
is_leaf_form (Hash size children) = false
is_leaf_form (Node children) = false
is_leaf_form form = true

-- the immediate that a child is, if it is one
abbrev pub immediate_of : Child → Option Element
immediate_of (Term (Ref address)) = None
immediate_of (Term element) = Some element
immediate_of (Item parent element) = None

-- whether a child is the leaf that ends a list
abbrev pub is_nil_term : Child → Bool
is_nil_term (Term element) = is_nil (Immediate element)
is_nil_term (Item parent element) = false

-- whether a list continues
abbrev pub is_list_kind : NodeKind → Bool
is_list_kind kinds.Cons = true
is_list_kind kind = false

abbrev pub is_list : Opened → Bool
is_list (opened.Node ix kind) = is_list_kind kind
is_list found = false

-- the cell with a number is a leaf
pub record IsLeafCell (heap : List Cell) (n : ℕ) : Type 0 where
  pub cell : n < length heap
  pub form : HeapForm
  pub form_is : form_at heap n ≡ Some form
  pub is_leaf : is_leaf_form form ≡ true

-- a child opens the cell with a number, which is a leaf
pub record IsLeafAt (heap : List Cell) (path : List ℕ) (child : Child) (n : ℕ) : Type 0 where
  pub at : IsLeafCell heap n
  pub opens : opening heap path child ≡ leaf (OfCell (address_of heap n) at.form)

-- a cell that is a node
pub record IsNodeAt (heap : List Cell) (path : List ℕ) (child : Child) (n : ℕ) (kind : NodeKind) : Type 0 where
  pub cell : n < length heap
  pub fits : is_item kind ≡ is_item_child child
  pub opens : opening heap path child ≡ node (address_of heap n) kind (children_of heap kind n)

abbrev pub IsOpened : List Cell → List ℕ → Child → Opened → Type 0
IsOpened heap path child opened.Immediate =
    (opening heap path child ≡ leaf (Immediate (element_of child))) × (immediate_of child ≡ Some (element_of child))
IsOpened heap path child (opened.Leaf ix) = IsLeafAt heap path child (number ix)
IsOpened heap path child (opened.Bad address why) = opening heap path child ≡ bad address why
IsOpened heap path child (opened.Node ix kind) = IsNodeAt heap path child (number ix) kind

-- the walk is in a cell
abbrev pub is_entered : HeapMap → Entered → CellIx → Bool
is_entered heap path ix = is_on (address_of heap.cells (number ix)) (path_of heap.cells path.entries)

-- the item at a place in a hash map or an inner node
abbrev pub item_in : HeapMap → CellIx → ℕ → Child
item_in heap parent place = Item (address_of heap.cells (number parent)) (element_at heap.cells (number parent) place)

-- the element at a place in a cell leads to another cell
abbrev pub LeadsFrom : HeapMap → CellIx → ℕ → CellIx → Type 0
LeadsFrom heap ix place found = target heap.cells (element_at heap.cells (number ix) place) ≡ At (number found)

-- the cell of a node may be entered
abbrev pub MayEnter : Entered → Opened → Type 0
MayEnter path (opened.Node ix kind) = IsLine path.cells (number ix ∷ numbers_of path.entries)
MayEnter path found = Unit {0}

pub record Opens (heap : HeapMap) (path : Entered) (child : Child) (found : Opened) : Type 0 where
  pub found_is : IsOpened heap.cells (path_of heap.cells path.entries) child found
  pub enters : MayEnter path found

-- what is found for each term that leads to a place
abbrev pub OpensEach : HeapMap → Entered → Target → Opened → Type 0
OpensEach heap path place found = (e : Element) → target heap.cells e ≡ place → Opens heap path (Term e) found
