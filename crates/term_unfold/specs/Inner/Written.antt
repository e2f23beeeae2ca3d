-- What is written of a cell, of a child and of a root, from a heap and the previews of its binaries.
use Rattle.std.specs.Prelude.{◌≡◌, ℕ, List, Option, is_some}
use Rattle.term_forms.specs.Elements.{Element}
use Rattle.heap_cells.specs.HeapMap.{HeapMap, form_at}
use Rattle.binary_refs.specs.declared.entries.Entry.{Entry}
use Rattle.binary_refs.specs.Previews.{entry_at}
use Rattle.term_unfold.specs.declared.children.Child.{Child as PlacedChild}
use Rattle.term_unfold.specs.declared.openings.Opened.{Opened}
use Rattle.term_unfold.specs.declared.turns.Own.{Own}
use Rattle.term_unfold.specs.declared.turns.Turn.{Turn}
use Rattle.term_unfold.specs.Maps.{address_of}
use Rattle.term_unfold.specs.Leaves.{leaves}
use Rattle.term_unfold.specs.Rules.{Term}
use Rattle.term_unfold.specs.Inner.Children.{child_shown}
use Rattle.term_unfold.specs.Inner.Rest.{cell_text, child_text, own_text, turn_text}

-- the cell with a number has a preview exactly if this is stated of it
abbrev pub HasEntryIf : Option (ℕ × ℕ) → List Entry → ℕ → Type 0
HasEntryIf stated previews n = is_some (entry_at previews n) ≡ is_some stated

-- the text of the cell with a number, which is a leaf
abbrev pub text_of_cell : HeapMap → List Entry → ℕ → List ℕ
text_of_cell heap previews n = cell_text (leaves heap previews) (address_of heap.cells n) (form_at heap.cells n)

-- what a child writes of itself, by what it was opened as
abbrev pub text_of_child : HeapMap → List Entry → PlacedChild → Opened → List ℕ
text_of_child heap previews child opened = child_text (leaves heap previews) heap.cells (child_shown heap.cells child) opened

-- what a root does
abbrev pub text_of_root : HeapMap → List Entry → Element → Opened → List ℕ
text_of_root heap previews root opened = child_text (leaves heap previews) heap.cells (Term root) opened

-- what a turn writes of a child
abbrev pub text_of_own : HeapMap → List Entry → PlacedChild → Own → List ℕ
text_of_own heap previews child own = own_text (leaves heap previews) heap.cells (child_shown heap.cells child) own

-- what a turn writes at a child
abbrev pub text_of_turn : HeapMap → List Entry → PlacedChild → Turn → List ℕ
text_of_turn heap previews child turn = turn_text (leaves heap previews) heap.cells (child_shown heap.cells child) turn
