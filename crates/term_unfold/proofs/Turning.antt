-- What the open cells still have to write, step by step.
use Rattle.std.proofs.Common.{◌≡◌, ℕ, zero, suc, ◌<◌, ◌%◌, ◌/◌, Bool, true, false, not, cond, List, [], ◌∷◌, ◌++◌, Some, None, refl, sym, ◌∙◌, ap, append_assoc, arith}
use Rattle.std.specs.Prelude.{codes, slice_get, nat_eq, nat_lt}
use Rattle.std.proofs.lemmas.Bool.{lt-ltb, ne_eqb}
use Rattle.heap_cells.specs.Cells.{Cell}
use Rattle.heap_cells.specs.Targets.{number}
use Rattle.term_unfold.specs.declared.node.NodeKind.{NodeKind}
use Rattle.term_unfold.specs.declared.node.NodeKind.TheVariants as kinds
use Rattle.term_unfold.specs.declared.path.Entry.{Entry}
use Rattle.term_unfold.specs.Inner.Coming.{left_of}
use Rattle.term_unfold.specs.Inner.Entries.{path_of, next_of, is_item, outside}
use Rattle.term_unfold.specs.Inner.Children.{children_of}
use Rattle.term_unfold.specs.Inner.Rest.{is_value, is_next_value, left_text, flat_rest, term_rest, pair_rest, item_rest, run, resume, rest}
use Rattle.term_unfold.specs.Rules.{Child}
use Rattle.term_unfold.specs.Text.{Shown, shown, led, ◌then◌, Cut, At, closed, comma_text, elements_text, items_text}
use Rattle.term_unfold.specs.Trees.{Value, Tree, none, more}
use Rattle.term_unfold.specs.Unfolding.{trees, unfolded}
use Rattle.term_unfold.proofs.ChildFacts.{double, even, odd}
use Rattle.term_unfold.proofs.Visited.{drop-past_get}
use Rattle.std.proofs.Math.Bool.{not-not}
use Rattle.dump_io.specs.Laws.Lists.{drop-at}

-- texts and what follows them

pub run-then : (s : Shown ℕ) (f : ℕ → Shown ℕ) (k : ℕ → List ℕ) → run (s then f) k ≡ run s (λ m. run (f m) k)
run-then s f k = append_assoc s.text (f s.left).text (k (f s.left).left)

pub run-led : (front : List ℕ) (s : Shown ℕ) (k : ℕ → List ℕ) → run (led front s) k ≡ front ++ run s k
run-led front s k = append_assoc front s.text (k s.left)

-- a tail that is neither the end of the list nor a list
abbrev pub barred : Shown ℕ → Shown ℕ
barred tail = led (codes "|") (tail then shown (codes "]"))

pub run-barred : (s : Shown ℕ) (k : ℕ → List ℕ) → run (barred s) k ≡ codes "|" ++ run s (λ m. codes "]" ++ k m)
run-barred s k = ap (λ l. 124 ∷ l) (append_assoc s.text (codes "]") (k s.left))

-- the children that are left

pub left-none : (heap : List Cell) (e : Entry) (es : List Entry) → slice_get (children_of heap e.kind (number e.cell)) e.next ≡ None → left_of heap e es ≡ none
left-none heap e es is = ap (trees (unfolded heap (path_of heap (e ∷ es)))) (drop-past_get (children_of heap e.kind (number e.cell)) e.next is)

pub left-more : (heap : List Cell) (came : Bool) (e : Entry) (es : List Entry) (child : Child) → slice_get (children_of heap e.kind (number e.cell)) e.next ≡ Some child
    → left_of heap e es ≡ more (unfolded heap (path_of heap (next_of came e ∷ es)) child) (left_of heap (next_of came e) es)
left-more heap came e es child is =
    ap (trees (unfolded heap (path_of heap (e ∷ es)))) (drop-at (children_of heap e.kind (number e.cell)) e.next child is)

-- what the innermost cell has to write, where its kind is given

pub term-at : (leaf : Value → List ℕ) (heap : List Cell) (e : Entry) (es : List Entry) (came : Bool) (m : ℕ) (k : NodeKind) → e.kind ≡ k → is_item k ≡ false
    → resume leaf heap (e ∷ es) (At came m) ≡ run (term_rest leaf k came e.next (left_of heap e es) m) (rest leaf heap es)
term-at leaf heap e es came m k is term =
    ap (λ x. cond (is_item x) (run (item_rest leaf x came e.next (left_of heap e es) m) (resume leaf heap es)) (run (term_rest leaf x came e.next (left_of heap e es) m) (rest leaf heap es))) is
    ∙ ap (λ b. cond b (run (item_rest leaf k came e.next (left_of heap e es) m) (resume leaf heap es)) (run (term_rest leaf k came e.next (left_of heap e es) m) (rest leaf heap es))) term

pub item-at : (leaf : Value → List ℕ) (heap : List Cell) (e : Entry) (es : List Entry) (came : Bool) (m : ℕ) (k : NodeKind) → e.kind ≡ k → is_item k ≡ true
    → resume leaf heap (e ∷ es) (At came m) ≡ run (item_rest leaf k came e.next (left_of heap e es) m) (resume leaf heap es)
item-at leaf heap e es came m k is item =
    ap (λ x. cond (is_item x) (run (item_rest leaf x came e.next (left_of heap e es) m) (resume leaf heap es)) (run (term_rest leaf x came e.next (left_of heap e es) m) (rest leaf heap es))) is
    ∙ ap (λ b. cond b (run (item_rest leaf k came e.next (left_of heap e es) m) (resume leaf heap es)) (run (term_rest leaf k came e.next (left_of heap e es) m) (rest leaf heap es))) item

-- a cut is closed by the map, and the count is 0
cut-at : (leaf : Value → List ℕ) (b : Bool) (heap : List Cell) (es : List Entry) → resume leaf heap es Cut ≡ codes "}" ++ rest leaf heap (outside es) 0
    → cond b (resume leaf heap es Cut) (codes "}" ++ rest leaf heap es 0) ≡ codes "}" ++ rest leaf heap (cond b (outside es) es) 0
cut-at leaf true heap es is = is
cut-at leaf false heap es is = refl

resume-cut : (leaf : Value → List ℕ) (heap : List Cell) (entries : List Entry) → resume leaf heap entries Cut ≡ codes "}" ++ rest leaf heap (outside entries) 0
resume-cut leaf heap [] = refl
resume-cut leaf heap (e ∷ es) = cut-at leaf (is_item e.kind) heap es (resume-cut leaf heap es)

-- a cut behind a front, down to the map
cut-down : (leaf : Value → List ℕ) (heap : List Cell) (entries : List Entry) (front : List ℕ) → (front ++ codes "...") ++ resume leaf heap entries Cut ≡ (front ++ codes "...}") ++ rest leaf heap (outside entries) 0
cut-down leaf heap entries front =
    append_assoc front (codes "...") (resume leaf heap entries Cut) ∙ ap (λ l. front ++ (codes "..." ++ l)) (resume-cut leaf heap entries)
    ∙ sym (append_assoc front (codes "...}") (rest leaf heap (outside entries) 0))

abbrev pub HasChild : List Cell → Entry → Child → Type 0
HasChild heap e child = slice_get (children_of heap e.kind (number e.cell)) e.next ≡ Some child

abbrev tree_of : List Cell → Entry → List Entry → Child → Tree
tree_of heap e es child = unfolded heap (path_of heap (next_of true e ∷ es)) child

cut-tuple : (leaf : Value → List ℕ) (heap : List Cell) (e : Entry) (es : List Entry) (child : Child) → e.kind ≡ kinds.Tuple → HasChild heap e child
    → rest leaf heap (e ∷ es) 0 ≡ (comma_text e.came ++ codes "...}") ++ rest leaf heap es 0
cut-tuple leaf heap e es child is has =
    term-at leaf heap e es e.came 0 kinds.Tuple is refl ∙ ap (λ t. run (elements_text leaf e.came t 0) (rest leaf heap es)) (left-more heap true e es child has)

cut-key : (leaf : Value → List ℕ) (heap : List Cell) (e : Entry) (es : List Entry) (child : Child) → e.kind ≡ kinds.Flat → is_value e.next ≡ false → HasChild heap e child
    → rest leaf heap (e ∷ es) 0 ≡ (comma_text e.came ++ codes "...}") ++ rest leaf heap es 0
cut-key leaf heap e es child is key has =
    term-at leaf heap e es e.came 0 kinds.Flat is refl ∙ ap (λ t. run (flat_rest leaf (is_value e.next) e.came t 0) (rest leaf heap es)) (left-more heap true e es child has)
    ∙ ap (λ b. run (flat_rest leaf b e.came (more (tree_of heap e es child) (left_of heap (next_of true e) es)) 0) (rest leaf heap es)) key

cut-value : (leaf : Value → List ℕ) (heap : List Cell) (e : Entry) (es : List Entry) (child : Child) → e.kind ≡ kinds.Flat → is_value e.next ≡ true → HasChild heap e child
    → rest leaf heap (e ∷ es) 0 ≡ codes "=>...}" ++ rest leaf heap es 0
cut-value leaf heap e es child is value has =
    term-at leaf heap e es e.came 0 kinds.Flat is refl ∙ ap (λ t. run (flat_rest leaf (is_value e.next) e.came t 0) (rest leaf heap es)) (left-more heap true e es child has)
    ∙ ap (λ b. run (flat_rest leaf b e.came (more (tree_of heap e es child) (left_of heap (next_of true e) es)) 0) (rest leaf heap es)) value

cut-hash : (leaf : Value → List ℕ) (heap : List Cell) (e : Entry) (es : List Entry) (child : Child) → e.kind ≡ kinds.Hash → HasChild heap e child
    → rest leaf heap (e ∷ es) 0 ≡ (comma_text e.came ++ codes "...}") ++ rest leaf heap es 0
cut-hash leaf heap e es child is has =
    term-at leaf heap e es e.came 0 kinds.Hash is refl ∙ ap (λ t. run (closed (items_text leaf e.came t 0)) (rest leaf heap es)) (left-more heap true e es child has)
    ∙ ap (λ l. l ++ rest leaf heap es 0) (append_assoc (comma_text e.came) (codes "...") (codes "}"))

cut-inner : (leaf : Value → List ℕ) (heap : List Cell) (e : Entry) (es : List Entry) (child : Child) → e.kind ≡ kinds.Inner → HasChild heap e child
    → rest leaf heap (e ∷ es) 0 ≡ (comma_text e.came ++ codes "...}") ++ rest leaf heap (outside es) 0
cut-inner leaf heap e es child is has =
    item-at leaf heap e es e.came 0 kinds.Inner is refl ∙ ap (λ t. run (items_text leaf e.came t 0) (resume leaf heap es)) (left-more heap true e es child has)
    ∙ cut-down leaf heap es (comma_text e.came)

cut-pair_key : (leaf : Value → List ℕ) (heap : List Cell) (e : Entry) (es : List Entry) (child : Child) → e.kind ≡ kinds.Pair → e.next ≡ 0 → HasChild heap e child
    → rest leaf heap (e ∷ es) 0 ≡ (comma_text e.came ++ codes "...}") ++ rest leaf heap (outside es) 0
cut-pair_key leaf heap e es child is at has =
    item-at leaf heap e es e.came 0 kinds.Pair is refl ∙ ap (λ t. run (pair_rest leaf e.came e.next t 0) (resume leaf heap es)) (left-more heap true e es child has)
    ∙ ap (λ n. run (pair_rest leaf e.came n (more (tree_of heap e es child) (left_of heap (next_of true e) es)) 0) (resume leaf heap es)) at
    ∙ cut-down leaf heap es (comma_text e.came)

cut-pair_value : (leaf : Value → List ℕ) (heap : List Cell) (e : Entry) (es : List Entry) (child : Child) (n : ℕ) → e.kind ≡ kinds.Pair → e.next ≡ suc n → HasChild heap e child
    → rest leaf heap (e ∷ es) 0 ≡ codes "=>...}" ++ rest leaf heap (outside es) 0
cut-pair_value leaf heap e es child n is at has =
    item-at leaf heap e es e.came 0 kinds.Pair is refl ∙ ap (λ t. run (pair_rest leaf e.came e.next t 0) (resume leaf heap es)) (left-more heap true e es child has)
    ∙ ap (λ n. run (pair_rest leaf e.came n (more (tree_of heap e es child) (left_of heap (next_of true e) es)) 0) (resume leaf heap es)) at
    ∙ cut-down leaf heap es (codes "=>")

-- a tuple or a map is cut

cut-flat : (leaf : Value → List ℕ) (heap : List Cell) (e : Entry) (es : List Entry) (child : Child) (b : Bool) → e.kind ≡ kinds.Flat → is_value e.next ≡ b → HasChild heap e child
    → rest leaf heap (e ∷ es) 0 ≡ cond b (codes "=>...}") (comma_text e.came ++ codes "...}") ++ rest leaf heap es 0
cut-flat leaf heap e es child true is at has = cut-value leaf heap e es child is at has
cut-flat leaf heap e es child false is at has = cut-key leaf heap e es child is at has

cut-pair : (leaf : Value → List ℕ) (heap : List Cell) (e : Entry) (es : List Entry) (child : Child) (n : ℕ) → e.kind ≡ kinds.Pair → e.next ≡ n → HasChild heap e child
    → rest leaf heap (e ∷ es) 0 ≡ cond (nat_lt 0 n) (codes "=>...}") (comma_text e.came ++ codes "...}") ++ rest leaf heap (outside es) 0
cut-pair leaf heap e es child zero is at has = cut-pair_key leaf heap e es child is at has
cut-pair leaf heap e es child (suc n) is at has =
    cut-pair_value leaf heap e es child n is at has
    ∙ ap (λ b. cond b (codes "=>...}") (comma_text e.came ++ codes "...}") ++ rest leaf heap (outside es) 0) (sym (lt-ltb 0 (suc n) (omega arith)))

-- what is left of it, and where the walk is then, by its kind
abbrev cut_by : Entry → List Entry → NodeKind → (List Entry → List ℕ) → List ℕ
cut_by e es k after = cond (is_next_value k e.next) (codes "=>...}") (comma_text e.came ++ codes "...}") ++ after (cond (is_item k) (outside es) es)

cut-by : (leaf : Value → List ℕ) (heap : List Cell) (e : Entry) (es : List Entry) (child : Child) (k : NodeKind) → e.kind ≡ k → (k ≡ kinds.Cons → ⊥) → HasChild heap e child
    → rest leaf heap (e ∷ es) 0 ≡ cut_by e es k (λ l. rest leaf heap l 0)
cut-by leaf heap e es child kinds.Cons is other has = absurd (other refl)
cut-by leaf heap e es child kinds.Tuple is other has = cut-tuple leaf heap e es child is has
cut-by leaf heap e es child kinds.Flat is other has = cut-flat leaf heap e es child (is_value e.next) is refl has
cut-by leaf heap e es child kinds.Hash is other has = cut-hash leaf heap e es child is has
cut-by leaf heap e es child kinds.Inner is other has = cut-inner leaf heap e es child is has
cut-by leaf heap e es child kinds.Pair is other has = cut-pair leaf heap e es child e.next is refl has

pub cut-left : (leaf : Value → List ℕ) (heap : List Cell) (e : Entry) (es : List Entry) (child : Child) → (e.kind ≡ kinds.Cons → ⊥) → HasChild heap e child
    → rest leaf heap (e ∷ es) 0 ≡ left_text e ++ rest leaf heap (outside (e ∷ es)) 0
cut-left leaf heap e es child other has = cut-by leaf heap e es child e.kind refl other has

-- which children of a flat map are values

double-key : (i : ℕ) → is_value (double i) ≡ false
double-key zero = refl
double-key (suc i) = not-not (is_value (double i)) ∙ double-key i

even-key : (n : ℕ) → n % 2 ≡ 0 → is_value n ≡ false
even-key n h = ap is_value (even n h) ∙ double-key (n / 2)

odd-value : (n : ℕ) → 0 < n % 2 → is_value n ≡ true
odd-value n h = ap is_value (odd n h) ∙ ap not (double-key (n / 2))

pub odd-is_value : (n : ℕ) → not (nat_eq (n % 2) 0) ≡ is_value n
odd-is_value n = by (n % 2) refl
  where
    by : (k : ℕ) → n % 2 ≡ k → not (nat_eq k 0) ≡ is_value n
    by zero h = sym (even-key n h)
    by (suc k) h = ap not (ne_eqb (suc k) 0 (λ e. omega (arith, e))) ∙ sym (odd-value n (omega (arith, h)))
