-- What the open cells of a walk have yet to write.
use Rattle.std.specs.Prelude.{◌≡◌, ◌⊎◌, ℕ, zero, suc, ◌+◌, ◌<◌, ◌≤◌, length, drop, Bool, true, false, not, nat_lt, if◌then◌else◌, List, [], ◌∷◌, ◌++◌, codes, Option, None, Some}
use Rattle.term_forms.specs.Forms.{HeapForm}
use Rattle.term_forms.specs.Seen.{element}
use Rattle.heap_cells.specs.Cells.{Cell}
use Rattle.heap_cells.specs.HeapMap.{HeapMap, form_at}
use Rattle.heap_cells.specs.Targets.{number}
use Rattle.term_unfold.specs.Maps.{address_of}
use Rattle.term_unfold.specs.declared.children.Child.{Child as PlacedChild}
use Rattle.term_unfold.specs.declared.node.NodeKind.{NodeKind}
use Rattle.term_unfold.specs.declared.node.NodeKind.TheVariants as kinds
use Rattle.term_unfold.specs.declared.openings.Opened.{Opened}
use Rattle.term_unfold.specs.declared.openings.Opened.TheVariants as opened
use Rattle.term_unfold.specs.declared.path.Entry.{Entry}
use Rattle.term_unfold.specs.declared.turns.Own.{Own}
use Rattle.term_unfold.specs.declared.turns.Own.TheVariants as own
use Rattle.term_unfold.specs.declared.turns.Turn.{Turn}
use Rattle.term_unfold.specs.Inner.Coming.{left_of}
use Rattle.term_unfold.specs.Inner.Entries.{Entered, came_of, is_item, path_of}
use Rattle.term_unfold.specs.Inner.Openings.{element_of, immediate_of, is_immediate, IsLeafCell, Opens}
use Rattle.term_unfold.specs.Inner.Children.{child_shown, IsChild, next_of_cell}
use Rattle.term_unfold.specs.Rules.{Child}
use Rattle.term_unfold.specs.Text.{Shown, shown, Stand, Cut, At, closed, comma_text, bad_text, node_text, head_text, tail_text, elements_text, keys_text, values_text, items_text, item_text, pair_text, value_text}
use Rattle.term_unfold.specs.Trees.{Value, Immediate, OfCell, Trees, none, more}
use Rattle.term_unfold.specs.Unfolding.{unfolded}

-- what a list has yet to write: its head, its tail, or the `]` after a tail that isn't a list
abbrev pub closing : Bool → List ℕ
closing true = codes "]"
closing false = []

abbrev pub list_rest : (Value → List ℕ) → Bool → ℕ → Trees → ℕ → Shown ℕ
list_rest leaf came next none m = shown (closing came) m
list_rest leaf came zero (more head rest) m = head_text leaf (more head rest) m
list_rest leaf came (suc next) (more tail rest) m = tail_text leaf (more tail rest) m

-- whether the next child of a flat map is a value
abbrev pub is_value : ℕ → Bool
is_value zero = false
is_value (suc next) = not (is_value next)

abbrev pub flat_rest : (Value → List ℕ) → Bool → Bool → Trees → ℕ → Shown ℕ
flat_rest leaf false came trees m = keys_text leaf came trees m
flat_rest leaf true came trees m = values_text leaf trees m

-- what an open cell has yet to write as a term, for its remaining children
abbrev pub term_rest : (Value → List ℕ) → NodeKind → Bool → ℕ → Trees → ℕ → Shown ℕ
term_rest leaf kinds.Cons came next trees m = list_rest leaf came next trees m
term_rest leaf kinds.Tuple came next trees m = elements_text leaf came trees m
term_rest leaf kinds.Flat came next trees m = flat_rest leaf (is_value next) came trees m
term_rest leaf kinds.Hash came next trees m = closed (items_text leaf came trees m)
term_rest leaf kind came next trees m = shown [] m

-- what a pair of a hash map has yet to write
abbrev pub pair_rest : (Value → List ℕ) → Bool → ℕ → Trees → ℕ → Shown Stand
pair_rest leaf came next none m = shown [] (At true m)
pair_rest leaf came zero (more key rest) m = pair_text leaf came (more key rest) m
pair_rest leaf came (suc next) (more value rest) m = value_text leaf (more value rest) m

-- what an open cell has yet to write as an item of a hash map
abbrev pub item_rest : (Value → List ℕ) → NodeKind → Bool → ℕ → Trees → ℕ → Shown Stand
item_rest leaf kinds.Inner came next trees m = items_text leaf came trees m
item_rest leaf kinds.Pair came next trees m = pair_rest leaf came next trees m
item_rest leaf kind came next trees m = shown [] (At came m)

-- a text and what follows it, which begins with what the text leaves
abbrev pub run : {A : Type 0} → Shown A → (A → List ℕ) → List ℕ
run first second = first.text ++ second first.left

-- what all open cells have yet to write when the innermost is after some text;
-- an item hands its stand to the cell below it, and a cut goes down to the map
abbrev pub resume : (Value → List ℕ) → List Cell → List Entry → Stand → List ℕ
resume leaf heap [] Cut = codes "}"
resume leaf heap [] (At came m) = []
resume leaf heap (e ∷ es) Cut = if is_item e.kind then resume leaf heap es Cut else codes "}" ++ resume leaf heap es (At (came_of es) 0)
resume leaf heap (e ∷ es) (At came m) =
    if is_item e.kind then run (item_rest leaf e.kind came e.next (left_of heap e es) m) (resume leaf heap es)
    else run (term_rest leaf e.kind came e.next (left_of heap e es) m) (λ n. resume leaf heap es (At (came_of es) n))

abbrev pub rest : (Value → List ℕ) → List Cell → List Entry → ℕ → List ℕ
rest leaf heap entries m = resume leaf heap entries (At (came_of entries) m)

-- what is to be written when a term, or an item, is visited
abbrev pub to_show : (Value → List ℕ) → List Cell → List Entry → Child → ℕ → List ℕ
to_show leaf heap entries child m = run (node_text leaf (unfolded heap (path_of heap entries) child) m) (rest leaf heap entries)

abbrev pub to_list : (Value → List ℕ) → List Cell → List Entry → Bool → Child → ℕ → List ℕ
to_list leaf heap entries came child m = run (item_text leaf came (unfolded heap (path_of heap entries) child) m) (resume leaf heap entries)

-- what stands before the children of a node
abbrev pub bracket : NodeKind → List ℕ
bracket kinds.Cons = codes "["
bracket kinds.Tuple = codes "{"
bracket kinds.Flat = codes "#{"
bracket kinds.Hash = codes "#{"
bracket kind = []

abbrev pub cell_text : (Value → List ℕ) → ℕ → Option HeapForm → List ℕ
cell_text leaf a None = []
cell_text leaf a (Some form) = leaf (OfCell a form)

-- a child's own text, up to its children
abbrev pub child_text : (Value → List ℕ) → List Cell → Child → Opened → List ℕ
child_text leaf heap child opened.Immediate = leaf (Immediate (element_of child))
child_text leaf heap child (opened.Leaf ix) = cell_text leaf (address_of heap (number ix)) (form_at heap (number ix))
child_text leaf heap child (opened.Bad address why) = bad_text address why
child_text leaf heap child (opened.Node ix kind) = bracket kind

-- what is written of a child itself
abbrev pub own_text : (Value → List ℕ) → List Cell → Child → Own → List ℕ
own_text leaf heap child own.Nothing = []
own_text leaf heap child (own.Child found) = child_text leaf heap child found
own_text leaf heap child (own.Immediate e) = leaf (Immediate (element e))

-- what is written at a child: something before it, and something of it
abbrev pub turn_text : (Value → List ℕ) → List Cell → Child → Turn → List ℕ
turn_text leaf heap child turn = turn.front.now ++ own_text leaf heap child turn.own

-- what a child was opened as can be written
abbrev pub HasText : List Cell → Child → Opened → Type 0
HasText heap child opened.Immediate = immediate_of child ≡ Some (element_of child)
HasText heap child (opened.Leaf ix) = IsLeafCell heap (number ix)
HasText heap child found = Unit {0}

-- what is to be written of a child can be written
abbrev pub HasOwn : List Cell → Child → Own → Type 0
HasOwn heap child (own.Child found) = HasText heap child found
HasOwn heap child (own.Immediate e) = is_immediate (element e) ≡ true
HasOwn heap child own.Nothing = Unit {0}

-- whether the next child of a node is a value of a map
abbrev pub is_next_value : NodeKind → ℕ → Bool
is_next_value kinds.Flat next = is_value next
is_next_value kinds.Pair next = nat_lt 0 next
is_next_value kind next = false

-- what stands before the next child of a tuple or of a map
abbrev pub front_of : Entry → List ℕ
front_of e = if is_next_value e.kind e.next then codes "=>" else comma_text e.came

-- what stands for all that is left of a tuple or of a map
abbrev pub left_text : Entry → List ℕ
left_text e = if is_next_value e.kind e.next then codes "=>...}" else comma_text e.came ++ codes "...}"

-- a tuple, a flat map, or a pair of a hash map
abbrev pub HasTerms : NodeKind → Type 0
HasTerms kind = (kind ≡ kinds.Tuple) ⊎ (kind ≡ kinds.Flat) ⊎ (kind ≡ kinds.Pair)

-- a hash map, or an inner node of one
abbrev pub HasItems : NodeKind → Type 0
HasItems kind = (kind ≡ kinds.Hash) ⊎ (kind ≡ kinds.Inner)

-- the innermost cell has come to a child, and what was found there
pub record AtChild (heap : HeapMap) (path : Entered) (entry : Entry) (child : PlacedChild) (found : Opened) : Type 0 where
  pub top : path.entries ≡ entry ∷ drop 1 path.entries
  pub few : length path.entries ≤ length heap.cells
  pub next_few : entry.next < 200000000
  pub at : next_of_cell heap.cells entry ≡ Some (child_shown heap.cells child)
  pub placed : IsChild heap.cells child
  pub opens : Opens heap path (child_shown heap.cells child) found

-- with one more node to write, the open cells write what the turn says, and then what is open after it writes
pub record IsTurn (heap : List Cell) (before after : List Entry) (child : Child) (turn : Turn) : Type 0 where
  pub text : (leaf : Value → List ℕ) (m : ℕ) → rest leaf heap before (suc m) ≡ turn_text leaf heap child turn ++ rest leaf heap after m
  pub more : length after ≤ length before + 1
  pub own : HasOwn heap child turn.own

-- with one more node to write, at a child of an open cell, the open
-- cells write what the turn says, and then what is open after it writes
abbrev pub TurnsAt : HeapMap → Entered → Entered → PlacedChild → Turn → Type 0
TurnsAt heap before after child turn = IsTurn heap.cells before.entries after.entries (child_shown heap.cells child) turn
