-- The children of an open cell, by what it is in the walk.
use Rattle.std.specs.Prelude.{◌≡◌, ◌⊎◌, ℕ, ◌<◌, List, [], ◌∷◌, length, take, drop, slice_get, Option, None, Some, IfSome}
use Rattle.std.specs.Option.{option_map}
use Rattle.term_forms.specs.Elements.{Element, Ref}
use Rattle.term_forms.specs.Forms.{HeapForm, Tuple, Hash, Node}
use Rattle.heap_cells.specs.Cells.{Cell, elements_in, kind_of}
use Rattle.cell_records.specs.declared.cells.Kind.TheVariants as cell_kind
use Rattle.cell_records.specs.declared.cells.CellIx.{CellIx}
use Rattle.cell_records.specs.declared.cells.Slot.{Slot}
use Rattle.heap_cells.specs.HeapMap.{HeapMap, form_at, elements_at}
use Rattle.heap_cells.specs.Targets.{number, target, slot_target, IsWithin}
use Rattle.term_unfold.specs.Maps.{address_of, element_at, form_at_address}
use Rattle.term_unfold.specs.declared.node.NodeKind.{NodeKind}
use Rattle.term_unfold.specs.declared.node.NodeKind.TheVariants as kinds
use Rattle.term_unfold.specs.declared.children.Child.{Child as PlacedChild}
use Rattle.term_unfold.specs.declared.children.Child.TheVariants as placed
use Rattle.term_unfold.specs.Rules.{Child, Term, Item, terms, items, pairs}
use Rattle.term_unfold.specs.declared.path.Entry.{Entry}

-- the children of a cell that is a hash map or an inner node
abbrev pub members_in : Option HeapForm → List Element
members_in (Some (Hash size children)) = children
members_in (Some (Tuple elements)) = elements
members_in (Some (Node children)) = children
members_in form = []

-- a hash map, or what may be one of its inner nodes
abbrev pub HasMembers : Option HeapForm → Type 0
HasMembers form = (option_map kind_of form ≡ Some cell_kind.Hash) ⊎ (option_map kind_of form ≡ Some cell_kind.Node) ⊎ (option_map kind_of form ≡ Some cell_kind.Tuple)

-- the elements of a cell that was found by its address
abbrev pub found_elements : Option (Option HeapForm) → List Element
found_elements None = []
found_elements (Some form) = elements_in form

-- the children of a flat map with these elements: the keys element, then the values
abbrev pub flat_children : List Cell → List Element → List Child
flat_children heap [] = []
flat_children heap (Ref k ∷ values) = pairs (found_elements (form_at_address heap k)) values
flat_children heap (element ∷ values) = []

-- the children of the cell with a number, by what it is in the walk
abbrev pub children_of : List Cell → NodeKind → ℕ → List Child
children_of heap kinds.Cons n = terms (take 2 (elements_at heap n))
children_of heap kinds.Tuple n = terms (elements_at heap n)
children_of heap kinds.Flat n = flat_children heap (elements_at heap n)
children_of heap kinds.Hash n = items (address_of heap n) (members_in (form_at heap n))
children_of heap kinds.Inner n = items (address_of heap n) (members_in (form_at heap n))
children_of heap kinds.Pair n = terms (take 2 (elements_at heap n))

-- the children of a cell
abbrev pub children_in : HeapMap → NodeKind → CellIx → List Child
children_in heap kind ix = children_of heap.cells kind (number ix)

-- the children of a flat map whose keys are in another cell
abbrev pub keyed_children : HeapMap → CellIx → CellIx → List Child
keyed_children heap keys ix = pairs (elements_at heap.cells (number keys)) (drop 1 (elements_at heap.cells (number ix)))

-- the child that a place in a cell stands for
abbrev pub child_shown : List Cell → PlacedChild → Child
child_shown heap (placed.Term slot ix place) = Term (element_at heap (number ix) place)
child_shown heap (placed.Item ix place) = Item (address_of heap (number ix)) (element_at heap (number ix) place)

-- a place of an element in a cell
pub record IsPlace (heap : List Cell) (n place : ℕ) : Type 0 where
  pub cell : n < length heap
  pub within : place < length (elements_at heap n)

-- a place with its slot
pub record IsTermAt (heap : List Cell) (slot : Slot) (n place : ℕ) : Type 0 where
  pub at : IsPlace heap n place
  pub leads : target heap (element_at heap n place) ≡ slot_target slot
  pub within : IsWithin (length heap) (slot_target slot)

-- a place in a hash map or an inner node
pub record IsItemAt (heap : List Cell) (n place : ℕ) : Type 0 where
  pub at : IsPlace heap n place
  pub kind : HasMembers (form_at heap n)

abbrev pub IsChild : List Cell → PlacedChild → Type 0
IsChild heap (placed.Term slot ix place) = IsTermAt heap slot.now (number ix) place
IsChild heap (placed.Item ix place) = IsItemAt heap (number ix) place

-- a child that was asked for by its place is that one of the children, and the place is small
pub record IsChildAt (heap : List Cell) (children : List Child) (next most : ℕ) (found : Option PlacedChild) : Type 0 where
  pub child : option_map (child_shown heap) found ≡ slice_get children next
  pub placed : IfSome found (IsChild heap)
  pub few : IfSome found (λ _. next < most)

-- a child that was asked for by its place is that one of the children of a cell, by what the cell is in the walk
abbrev pub IsChildIn : HeapMap → NodeKind → CellIx → ℕ → ℕ → Option PlacedChild → Type 0
IsChildIn heap kind ix next most found = IsChildAt heap.cells (children_in heap kind ix) next most found

-- a child that was asked for by its place is that one of the children of a flat map whose keys are in another cell
abbrev pub IsKeyedChild : HeapMap → CellIx → CellIx → ℕ → ℕ → Option PlacedChild → Type 0
IsKeyedChild heap keys ix next most found = IsChildAt heap.cells (keyed_children heap keys ix) next most found

-- the child that comes next in the innermost cell
abbrev pub next_of_cell : List Cell → Entry → Option Child
next_of_cell heap entry = slice_get (children_of heap entry.kind (number entry.cell)) entry.next
