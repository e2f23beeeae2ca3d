-- What the open cells still have to write, where a child is visited.
use Rattle.std.proofs.Common.{◌≡◌, ℕ, zero, suc, ◌+◌, ◌≤◌, Bool, true, false, not, cond, List, [], ◌∷◌, ◌++◌, length, take, Some, None, refl, sym, ◌∙◌, ap, inl, inr, append_assoc, arith, add-one}
use Rattle.std.specs.Prelude.{codes, slice_get, nat_lt}
use Rattle.std.specs.Option.{option_map_or}
use Rattle.std.proofs.lemmas.Bool.{lt-ltb}
use Rattle.term_forms.specs.Elements.{Element, Nil, Ref}
use Rattle.term_forms.specs.Forms.{HeapForm}
use Rattle.heap_cells.specs.Cells.{Cell}
use Rattle.heap_cells.specs.HeapMap.{form_at, elements_at}
use Rattle.heap_cells.specs.Targets.{number}
use Rattle.cell_records.specs.declared.cells.Why.{Why}
use Rattle.term_unfold.specs.Maps.{address_of, form_at_address}
use Rattle.term_unfold.specs.declared.node.NodeKind.{NodeKind}
use Rattle.term_unfold.specs.declared.node.NodeKind.TheVariants as kinds
use Rattle.term_unfold.specs.declared.openings.Opened.{Opened}
use Rattle.term_unfold.specs.declared.openings.Opened.TheVariants as opened
use Rattle.term_unfold.specs.declared.path.Entry.{Entry}
use Rattle.term_unfold.specs.Inner.Coming.{left_of, entered_by}
use Rattle.term_unfold.specs.Inner.Entries.{path_of, next_of, is_item}
use Rattle.term_unfold.specs.Inner.Children.{children_of, members_in, found_elements, flat_children}
use Rattle.term_unfold.specs.Inner.Openings.{element_of, is_item_child, immediate_of, is_immediate, is_nil_term, is_list, IsOpened}
use Rattle.term_unfold.specs.Inner.Rest.{closing, list_rest, is_value, flat_rest, term_rest, pair_rest, item_rest, run, resume, rest, to_show, to_list, bracket, cell_text, child_text, front_of, is_next_value, HasItems, HasTerms}
use Rattle.term_unfold.specs.Places.{is_nil}
use Rattle.term_unfold.specs.Rules.{Child, Term, Item, leaf as opens_leaf, opening, terms, items, pairs}
use Rattle.term_unfold.specs.Text.{Shown, shown, led, ◌then◌, Stand, Cut, At, go_on, closed, comma_text, bad_text, node_text, head_text, tail_text, elements_text, keys_text, values_text, items_text, item_text, pair_text, value_text}
use Rattle.term_unfold.specs.Trees.{Value, Immediate, OfCell, Tree, Leaf, Bad, Branch, Trees, none, more}
use Rattle.term_unfold.specs.Unfolding.{trees, unfolded}
use Rattle.term_unfold.proofs.Turning.{barred, run-then, run-led, run-barred, left-more, left-none, term-at, item-at, HasChild}
use Rattle.term_unfold.proofs.Visited.{unfolded-as}

-- a visited child, by what it opens

show-as : (leaf : Value → List ℕ) (heap : List Cell) (entries : List Entry) (child : Child) (t : Tree) (m : ℕ) → unfolded heap (path_of heap entries) child ≡ t
    → to_show leaf heap entries child m ≡ run (node_text leaf t m) (rest leaf heap entries)
show-as leaf heap entries child t m is = ap (λ t. run (node_text leaf t m) (rest leaf heap entries)) is

list-first : (leaf : Value → List ℕ) (ts : Trees) (m : ℕ) → list_rest leaf false 0 ts m ≡ head_text leaf ts m
list-first leaf none m = refl
list-first leaf (more t ts) m = refl

-- what a node has to write behind its bracket
bracketed : (leaf : Value → List ℕ) (k : NodeKind) (ts : Trees) (m : ℕ) (f : ℕ → List ℕ) → is_item k ≡ false → run (node_text leaf (Branch k ts) m) f ≡ bracket k ++ run (term_rest leaf k false 0 ts m) f
bracketed leaf kinds.Cons ts m f h = run-led (codes "[") (head_text leaf ts m) f ∙ ap (λ s. codes "[" ++ run s f) (sym (list-first leaf ts m))
bracketed leaf kinds.Tuple ts m f h = run-led (codes "{") (elements_text leaf false ts m) f
bracketed leaf kinds.Flat ts m f h = run-led (codes "#{") (keys_text leaf false ts m) f
bracketed leaf kinds.Hash ts m f h = run-led (codes "#{") (closed (items_text leaf false ts m)) f
bracketed leaf kinds.Inner ts m f h = cc
bracketed leaf kinds.Pair ts m f h = cc

cell_text-is : (leaf : Value → List ℕ) (heap : List Cell) (n : ℕ) (form : HeapForm) → form_at heap n ≡ Some form → leaf (OfCell (address_of heap n) form) ≡ cell_text leaf (address_of heap n) (form_at heap n)
cell_text-is leaf heap n form is = sym (ap (cell_text leaf (address_of heap n)) is)

pub show-opened : (leaf : Value → List ℕ) (heap : List Cell) (before : List Entry) (child : Child) (o : Opened) (m : ℕ) → length before ≤ length heap → is_item_child child ≡ false → IsOpened heap (path_of heap before) child o
    → to_show leaf heap before child m ≡ child_text leaf heap child o ++ rest leaf heap (entered_by o false before) m
show-opened leaf heap before child opened.Immediate m few term is =
    show-as leaf heap before child (Leaf (Immediate (element_of child))) m (unfolded-as heap before child _ few is.0)
show-opened leaf heap before child (opened.Leaf ix) m few term is =
    show-as leaf heap before child (Leaf (OfCell (address_of heap (number ix)) is.at.form)) m (unfolded-as heap before child _ few is.opens)
    ∙ ap (λ l. l ++ rest leaf heap before m) (cell_text-is leaf heap (number ix) is.at.form is.at.form_is)
show-opened leaf heap before child (opened.Bad address why) m few term is =
    show-as leaf heap before child (Bad address why) m (unfolded-as heap before child _ few is)
show-opened leaf heap before child (opened.Node ix kind) m few term is =
    let ts = trees (unfolded heap (address_of heap (number ix) ∷ path_of heap before)) (children_of heap kind (number ix)) in
    let e : Entry = record { cell = ix; next = 0; kind = kind; came = false } in
    show-as leaf heap before child (Branch kind ts) m (unfolded-as heap before child _ few is.opens)
    ∙ bracketed leaf kind ts m (rest leaf heap before) (is.fits ∙ term)
    ∙ ap (λ l. bracket kind ++ l) (sym (term-at leaf heap e before false m kind refl (is.fits ∙ term)))

-- the node behind a child

run-at : (s : Shown ℕ) (f g : ℕ → List ℕ) → f s.left ≡ g s.left → run s f ≡ run s g
run-at s f g h = ap (λ l. s.text ++ l) h

is_value-next : (n : ℕ) (b : Bool) → is_value n ≡ b → is_value (n + 1) ≡ not b
is_value-next n b h = ap is_value (add-one n) ∙ ap not h

-- what comes before the child is written, then the child, and then what is left
step-term : (leaf : Value → List ℕ) (heap : List Cell) (c : Bool) (e : Entry) (es : List Entry) (child : Child) (m : ℕ) (k : NodeKind) (front : List ℕ) (later : ℕ → Shown ℕ)
    → e.kind ≡ k → is_item k ≡ false → HasChild heap e child
    → term_rest leaf k e.came e.next (more (unfolded heap (path_of heap (next_of c e ∷ es)) child) (left_of heap (next_of c e) es)) (suc m)
    ≡ led front (node_text leaf (unfolded heap (path_of heap (next_of c e ∷ es)) child) m then later)
    → ((n : ℕ) → later n ≡ term_rest leaf k c (e.next + 1) (left_of heap (next_of c e) es) n)
    → rest leaf heap (e ∷ es) (suc m) ≡ front ++ to_show leaf heap (next_of c e ∷ es) child m
step-term leaf heap c e es child m k front later is term has now behind =
    let s = node_text leaf (unfolded heap (path_of heap (next_of c e ∷ es)) child) m in
    term-at leaf heap e es e.came (suc m) k is term ∙ ap (λ l. run (term_rest leaf k e.came e.next l (suc m)) (rest leaf heap es)) (left-more heap c e es child has)
    ∙ ap (λ x. run x (rest leaf heap es)) now ∙ run-led front (s then later) (rest leaf heap es)
    ∙ ap (λ l. front ++ l) (run-then s later (rest leaf heap es)
    ∙ run-at s (λ n. run (later n) (rest leaf heap es)) (rest leaf heap (next_of c e ∷ es))
    (ap (λ x. run x (rest leaf heap es)) (behind s.left) ∙ sym (term-at leaf heap (next_of c e) es c s.left k is term)))

step-tuple : (leaf : Value → List ℕ) (heap : List Cell) (e : Entry) (es : List Entry) (child : Child) (m : ℕ) → e.kind ≡ kinds.Tuple → HasChild heap e child
    → rest leaf heap (e ∷ es) (suc m) ≡ comma_text e.came ++ to_show leaf heap (next_of true e ∷ es) child m
step-tuple leaf heap e es child m is has =
    step-term leaf heap true e es child m kinds.Tuple (comma_text e.came) (elements_text leaf true (left_of heap (next_of true e) es)) is refl has refl (λ n. refl)

step-key : (leaf : Value → List ℕ) (heap : List Cell) (e : Entry) (es : List Entry) (child : Child) (m : ℕ) → e.kind ≡ kinds.Flat → is_value e.next ≡ false → HasChild heap e child
    → rest leaf heap (e ∷ es) (suc m) ≡ comma_text e.came ++ to_show leaf heap (next_of true e ∷ es) child m
step-key leaf heap e es child m is key has =
    let ts = left_of heap (next_of true e) es in
    step-term leaf heap true e es child m kinds.Flat (comma_text e.came) (values_text leaf ts) is refl has
    (ap (λ b. flat_rest leaf b e.came (more (unfolded heap (path_of heap (next_of true e ∷ es)) child) ts) (suc m)) key)
    (λ n. ap (λ b. flat_rest leaf b true ts n) (sym (is_value-next e.next false key)))

step-value : (leaf : Value → List ℕ) (heap : List Cell) (e : Entry) (es : List Entry) (child : Child) (m : ℕ) → e.kind ≡ kinds.Flat → is_value e.next ≡ true → HasChild heap e child
    → rest leaf heap (e ∷ es) (suc m) ≡ codes "=>" ++ to_show leaf heap (next_of true e ∷ es) child m
step-value leaf heap e es child m is value has =
    let ts = left_of heap (next_of true e) es in
    step-term leaf heap true e es child m kinds.Flat (codes "=>") (keys_text leaf true ts) is refl has
    (ap (λ b. flat_rest leaf b e.came (more (unfolded heap (path_of heap (next_of true e ∷ es)) child) ts) (suc m)) value)
    (λ n. ap (λ b. flat_rest leaf b true ts n) (sym (is_value-next e.next true value)))

list-later : (leaf : Value → List ℕ) (n : ℕ) (ts : Trees) (m : ℕ) → list_rest leaf false (suc n) ts m ≡ tail_text leaf ts m
list-later leaf n none m = refl
list-later leaf n (more t ts) m = refl

pub step-head : (leaf : Value → List ℕ) (heap : List Cell) (e : Entry) (es : List Entry) (child : Child) (m : ℕ) → e.kind ≡ kinds.Cons → e.next ≡ 0 → HasChild heap e child
    → rest leaf heap (e ∷ es) (suc m) ≡ to_show leaf heap (next_of false e ∷ es) child m
step-head leaf heap e es child m is at has =
    let ts = left_of heap (next_of false e) es in
    let next : suc 0 ≡ e.next + 1 = omega (arith, at) in
    step-term leaf heap false e es child m kinds.Cons [] (tail_text leaf ts) is refl has
    (ap (λ n. list_rest leaf e.came n (more (unfolded heap (path_of heap (next_of false e ∷ es)) child) ts) (suc m)) at)
    (λ n. sym (list-later leaf 0 ts n) ∙ ap (λ k. list_rest leaf false k ts n) next)

-- behind a tail a list has no child

two-left : (es : List Element) (n : ℕ) → slice_get (terms (take 2 es)) (suc (suc n)) ≡ None
two-left [] n = refl
two-left (x ∷ []) n = refl
two-left (x ∷ y ∷ es) n = refl

second-last : (heap : List Cell) (came : Bool) (e : Entry) (es : List Entry) (n : ℕ) → children_of heap e.kind (number e.cell) ≡ terms (take 2 (elements_at heap (number e.cell))) → e.next ≡ suc n
    → left_of heap (next_of came e) es ≡ none
second-last heap came e es n kids at =
    let next : e.next + 1 ≡ suc (suc n) = omega (arith, at) in
    left-none heap (next_of came e) es
    (ap (λ l. slice_get l (e.next + 1)) kids ∙ ap (slice_get (terms (take 2 (elements_at heap (number e.cell))))) next ∙ two-left (elements_at heap (number e.cell)) n)

list-none : (leaf : Value → List ℕ) (came : Bool) (next m : ℕ) → list_rest leaf came next none m ≡ shown (closing came) m
list-none leaf came zero m = refl
list-none leaf came (suc next) m = refl

-- a list whose tail was visited
behind-tail : (leaf : Value → List ℕ) (heap : List Cell) (came : Bool) (e : Entry) (es : List Entry) (n m : ℕ) → e.kind ≡ kinds.Cons → e.next ≡ suc n
    → rest leaf heap (next_of came e ∷ es) m ≡ closing came ++ rest leaf heap es m
behind-tail leaf heap came e es n m is at =
    term-at leaf heap (next_of came e) es came m kinds.Cons is refl ∙ ap (λ l. run (list_rest leaf came (e.next + 1) l m) (rest leaf heap es)) (second-last heap came e es n (ap (λ k. children_of heap k (number e.cell)) is) at)
    ∙ ap (λ s. run s (rest leaf heap es)) (list-none leaf came (e.next + 1) m)

-- a list in front of its tail
at-tail : (leaf : Value → List ℕ) (heap : List Cell) (came : Bool) (e : Entry) (es : List Entry) (child : Child) (n m : ℕ) → e.kind ≡ kinds.Cons → e.next ≡ suc n → HasChild heap e child
    → rest leaf heap (e ∷ es) (suc m) ≡ run (tail_text leaf (more (unfolded heap (path_of heap (next_of came e ∷ es)) child) (left_of heap (next_of came e) es)) (suc m)) (rest leaf heap es)
at-tail leaf heap came e es child n m is at has =
    term-at leaf heap e es e.came (suc m) kinds.Cons is refl ∙ ap (λ l. run (list_rest leaf e.came e.next l (suc m)) (rest leaf heap es)) (left-more heap came e es child has)
    ∙ ap (λ k. run (list_rest leaf e.came k (more (unfolded heap (path_of heap (next_of came e ∷ es)) child) (left_of heap (next_of came e) es)) (suc m)) (rest leaf heap es)) at

-- a tail is the end of the list

nil-element : (e : Element) → is_nil (Immediate e) ≡ true → e ≡ Nil
nil-element Nil h = refl
nil-element e h = cc

nil-child : (child : Child) → is_nil_term child ≡ true → child ≡ Term Nil
nil-child (Term e) h = ap Term (nil-element e h)
nil-child (Item parent e) h = cc

pub step-nil : (leaf : Value → List ℕ) (heap : List Cell) (e : Entry) (es : List Entry) (child : Child) (n m : ℕ) → e.kind ≡ kinds.Cons → e.next ≡ suc n → HasChild heap e child
    → length (e ∷ es) ≤ length heap → is_nil_term child ≡ true → rest leaf heap (e ∷ es) (suc m) ≡ codes "]" ++ rest leaf heap es m
step-nil leaf heap e es child n m is at has few nil =
    let same : child ≡ Term Nil = nil-child child nil in
    at-tail leaf heap false e es child n m is at has
    ∙ ap (λ c. run (tail_text leaf (more (unfolded heap (path_of heap (e ∷ es)) c) (left_of heap (next_of false e) es)) (suc m)) (rest leaf heap es)) same
    ∙ ap (λ t. run (tail_text leaf (more t (left_of heap (next_of false e) es)) (suc m)) (rest leaf heap es)) (unfolded-as heap (e ∷ es) (Term Nil) _ few refl)

-- a tail is an immediate

pub nil-by : (child : Child) → is_nil_term child ≡ option_map_or (λ e. is_nil (Immediate e)) (immediate_of child) false
nil-by (Term (Ref a)) = refl
nil-by (Term e) = refl
nil-by (Item parent e) = refl

immediate-leaf : (heap : List Cell) (path : List ℕ) (child : Child) (e : Element) → immediate_of child ≡ Some e → (e ≡ element_of child) × (opening heap path child ≡ opens_leaf (Immediate (element_of child)))
immediate-leaf heap path (Term (Ref a)) e h = cc
immediate-leaf heap path (Term x) e h = (cc, refl)
immediate-leaf heap path (Item parent x) e h = cc

leaf-immediate : (heap : List Cell) (path : List ℕ) (child : Child) (o : Opened) → opening heap path child ≡ opens_leaf (Immediate (element_of child)) → IsOpened heap path child o → o ≡ opened.Immediate
leaf-immediate heap path child opened.Immediate h is = refl
leaf-immediate heap path child (opened.Leaf ix) h is = let other = sym h ∙ is.opens in cc
leaf-immediate heap path child (opened.Bad address why) h is = cc
leaf-immediate heap path child (opened.Node ix kind) h is = let other = sym h ∙ is.opens in cc

pub immediate-is : (child : Child) (e : Element) → immediate_of child ≡ Some e → is_immediate e ≡ true
immediate-is (Term (Ref a)) e h = cc
immediate-is (Term x) e h = cc
immediate-is (Item parent x) e h = cc

-- what it is, is its own text
pub immediate-text : (leaf : Value → List ℕ) (heap : List Cell) (path : List ℕ) (child : Child) (o : Opened) (e : Element) → immediate_of child ≡ Some e → IsOpened heap path child o
    → child_text leaf heap child o ≡ leaf (Immediate e)
immediate-text leaf heap path child o e is opens =
    let at = immediate-leaf heap path child e is in
    ap (child_text leaf heap child) (leaf-immediate heap path child o at.1 opens) ∙ ap (λ x. leaf (Immediate x)) (sym at.0)

-- a tail that goes on with the list

pub step-cons : (leaf : Value → List ℕ) (heap : List Cell) (e : Entry) (es : List Entry) (child : Child) (o : Opened) (n m : ℕ) → e.kind ≡ kinds.Cons → e.next ≡ suc n → HasChild heap e child
    → length (e ∷ es) ≤ length heap → IsOpened heap (path_of heap (e ∷ es)) child o → is_list o ≡ true
    → rest leaf heap (e ∷ es) (suc m) ≡ codes "," ++ rest leaf heap (entered_by o false (next_of false e ∷ es)) m
step-cons leaf heap e es child (opened.Node ix kinds.Cons) n m is at has few opens list =
    let ts = trees (unfolded heap (address_of heap (number ix) ∷ path_of heap (e ∷ es))) (children_of heap kinds.Cons (number ix)) in
    let inner : Entry = record { cell = ix; next = 0; kind = kinds.Cons; came = false } in
    let s = head_text leaf ts m in
    at-tail leaf heap false e es child n m is at has
    ∙ ap (λ t. run (tail_text leaf (more t (left_of heap (next_of false e) es)) (suc m)) (rest leaf heap es)) (unfolded-as heap (e ∷ es) child _ few opens.opens)
    ∙ run-led (codes ",") s (rest leaf heap es)
    ∙ ap (λ l. codes "," ++ l) (run-at s (rest leaf heap es) (rest leaf heap (next_of false e ∷ es)) (sym (behind-tail leaf heap false e es n s.left is at))
    ∙ ap (λ x. run x (rest leaf heap (next_of false e ∷ es))) (sym (list-first leaf ts m))
    ∙ sym (term-at leaf heap inner (next_of false e ∷ es) false m kinds.Cons refl refl))
step-cons leaf heap e es child o n m is at has few opens list = cc

-- another tail

tail-leaf : (leaf : Value → List ℕ) (v : Value) (ts : Trees) (m : ℕ) → is_nil v ≡ false → tail_text leaf (more (Leaf v) ts) (suc m) ≡ barred (node_text leaf (Leaf v) m)
tail-leaf leaf (Immediate Nil) ts m h = cc
tail-leaf leaf v ts m h = refl

tail-as : (leaf : Value → List ℕ) (t u : Tree) (ts : Trees) (m : ℕ) → t ≡ u → tail_text leaf (more u ts) (suc m) ≡ barred (node_text leaf u m) → tail_text leaf (more t ts) (suc m) ≡ barred (node_text leaf t m)
tail-as leaf t u ts m is h = ap (λ t. tail_text leaf (more t ts) (suc m)) is ∙ h ∙ ap (λ t. barred (node_text leaf t m)) (sym is)

not-nil : (child : Child) → is_item_child child ≡ false → is_nil_term child ≡ false → is_nil (Immediate (element_of child)) ≡ false
not-nil (Term e) term h = h
not-nil (Item parent e) term h = cc

tail-other : (leaf : Value → List ℕ) (heap : List Cell) (entries : List Entry) (child : Child) (o : Opened) (ts : Trees) (m : ℕ) → length entries ≤ length heap → is_item_child child ≡ false
    → IsOpened heap (path_of heap entries) child o → is_nil_term child ≡ false → is_list o ≡ false
    → tail_text leaf (more (unfolded heap (path_of heap entries) child) ts) (suc m) ≡ barred (node_text leaf (unfolded heap (path_of heap entries) child) m)
tail-other leaf heap entries child opened.Immediate ts m few term opens nil list =
    tail-as leaf _ _ ts m (unfolded-as heap entries child _ few opens.0) (tail-leaf leaf (Immediate (element_of child)) ts m (not-nil child term nil))
tail-other leaf heap entries child (opened.Bad address why) ts m few term opens nil list =
    tail-as leaf _ _ ts m (unfolded-as heap entries child _ few opens) refl
tail-other leaf heap entries child (opened.Node ix kinds.Cons) ts m few term opens nil list = cc
tail-other leaf heap entries child o ts m few term opens nil list =
    tail-as leaf _ _ ts m (unfolded-as heap entries child _ few opens.opens) refl

pub step-tail : (leaf : Value → List ℕ) (heap : List Cell) (e : Entry) (es : List Entry) (child : Child) (o : Opened) (n m : ℕ) → e.kind ≡ kinds.Cons → e.next ≡ suc n → HasChild heap e child
    → length (e ∷ es) ≤ length heap → is_item_child child ≡ false → IsOpened heap (path_of heap (e ∷ es)) child o → is_nil_term child ≡ false → is_list o ≡ false
    → rest leaf heap (e ∷ es) (suc m) ≡ codes "|" ++ to_show leaf heap (next_of true e ∷ es) child m
step-tail leaf heap e es child o n m is at has few term opens nil list =
    let t = unfolded heap (path_of heap (next_of true e ∷ es)) child in
    let s = node_text leaf t m in
    at-tail leaf heap true e es child n m is at has
    ∙ ap (λ x. run x (rest leaf heap es)) (tail-other leaf heap (e ∷ es) child o (left_of heap (next_of true e) es) m few term opens nil list)
    ∙ run-barred s (rest leaf heap es)
    ∙ ap (λ l. codes "|" ++ l) (run-at s (λ k. codes "]" ++ rest leaf heap es k) (rest leaf heap (next_of true e ∷ es)) (sym (behind-tail leaf heap true e es n s.left is at)))

-- pairs of a hash map

pair-first : (leaf : Value → List ℕ) (came : Bool) (ts : Trees) (m : ℕ) → pair_rest leaf came 0 ts m ≡ pair_text leaf came ts m
pair-first leaf came none m = refl
pair-first leaf came (more t ts) m = refl

pair-later : (leaf : Value → List ℕ) (came : Bool) (n : ℕ) (ts : Trees) (m : ℕ) → pair_rest leaf came (suc n) ts m ≡ value_text leaf ts m
pair-later leaf came n none m = refl
pair-later leaf came n (more t ts) m = refl

pair-none : (leaf : Value → List ℕ) (came : Bool) (next m : ℕ) → pair_rest leaf came next none m ≡ shown [] (At true m)
pair-none leaf came zero m = refl
pair-none leaf came (suc next) m = refl

step-pair_key : (leaf : Value → List ℕ) (heap : List Cell) (e : Entry) (es : List Entry) (child : Child) (m : ℕ) → e.kind ≡ kinds.Pair → e.next ≡ 0 → HasChild heap e child
    → rest leaf heap (e ∷ es) (suc m) ≡ comma_text e.came ++ to_show leaf heap (next_of true e ∷ es) child m
step-pair_key leaf heap e es child m is at has =
    let t = unfolded heap (path_of heap (next_of true e ∷ es)) child in
    let ts = left_of heap (next_of true e) es in
    let s = node_text leaf t m in
    let value = value_text leaf ts s.left in
    let next : e.next + 1 ≡ suc 0 = omega (arith, at) in
    item-at leaf heap e es e.came (suc m) kinds.Pair is refl ∙ ap (λ l. run (pair_rest leaf e.came e.next l (suc m)) (resume leaf heap es)) (left-more heap true e es child has)
    ∙ ap (λ n. run (pair_rest leaf e.came n (more t ts) (suc m)) (resume leaf heap es)) at
    ∙ append_assoc (comma_text e.came) (s.text ++ value.text) (resume leaf heap es value.left)
    ∙ ap (λ l. comma_text e.came ++ l) (append_assoc s.text value.text (resume leaf heap es value.left)
    ∙ ap (λ l. s.text ++ l) (sym (item-at leaf heap (next_of true e) es true s.left kinds.Pair is refl ∙ ap (λ n. run (pair_rest leaf true n ts s.left) (resume leaf heap es)) next
    ∙ ap (λ x. run x (resume leaf heap es)) (pair-later leaf true 0 ts s.left))))

step-pair_value : (leaf : Value → List ℕ) (heap : List Cell) (e : Entry) (es : List Entry) (child : Child) (n m : ℕ) → e.kind ≡ kinds.Pair → e.next ≡ suc n → HasChild heap e child
    → rest leaf heap (e ∷ es) (suc m) ≡ codes "=>" ++ to_show leaf heap (next_of true e ∷ es) child m
step-pair_value leaf heap e es child n m is at has =
    let t = unfolded heap (path_of heap (next_of true e ∷ es)) child in
    let ts = left_of heap (next_of true e) es in
    let s = node_text leaf t m in
    item-at leaf heap e es e.came (suc m) kinds.Pair is refl ∙ ap (λ l. run (pair_rest leaf e.came e.next l (suc m)) (resume leaf heap es)) (left-more heap true e es child has)
    ∙ ap (λ k. run (pair_rest leaf e.came k (more t ts) (suc m)) (resume leaf heap es)) at
    ∙ append_assoc (codes "=>") s.text (resume leaf heap es (At true s.left))
    ∙ ap (λ l. codes "=>" ++ (s.text ++ l)) (sym (item-at leaf heap (next_of true e) es true s.left kinds.Pair is refl
    ∙ ap (λ l. run (pair_rest leaf true (e.next + 1) l s.left) (resume leaf heap es)) (second-last heap true e es n (ap (λ k. children_of heap k (number e.cell)) is) at)
    ∙ ap (λ x. run x (resume leaf heap es)) (pair-none leaf true (e.next + 1) s.left)))

-- the next child of a tuple or of a map

step-flat : (leaf : Value → List ℕ) (heap : List Cell) (e : Entry) (es : List Entry) (child : Child) (b : Bool) (m : ℕ) → e.kind ≡ kinds.Flat → is_value e.next ≡ b → HasChild heap e child
    → rest leaf heap (e ∷ es) (suc m) ≡ cond b (codes "=>") (comma_text e.came) ++ to_show leaf heap (next_of true e ∷ es) child m
step-flat leaf heap e es child true m is at has = step-value leaf heap e es child m is at has
step-flat leaf heap e es child false m is at has = step-key leaf heap e es child m is at has

step-pair : (leaf : Value → List ℕ) (heap : List Cell) (e : Entry) (es : List Entry) (child : Child) (n m : ℕ) → e.kind ≡ kinds.Pair → e.next ≡ n → HasChild heap e child
    → rest leaf heap (e ∷ es) (suc m) ≡ cond (nat_lt 0 n) (codes "=>") (comma_text e.came) ++ to_show leaf heap (next_of true e ∷ es) child m
step-pair leaf heap e es child zero m is at has = step-pair_key leaf heap e es child m is at has
step-pair leaf heap e es child (suc n) m is at has =
    step-pair_value leaf heap e es child n m is at has
    ∙ ap (λ b. cond b (codes "=>") (comma_text e.came) ++ to_show leaf heap (next_of true e ∷ es) child m) (sym (lt-ltb 0 (suc n) (omega arith)))

abbrev front_by : Entry → NodeKind → List ℕ
front_by e k = cond (is_next_value k e.next) (codes "=>") (comma_text e.came)

pub step-terms : (leaf : Value → List ℕ) (heap : List Cell) (e : Entry) (es : List Entry) (child : Child) (m : ℕ) → HasTerms e.kind → HasChild heap e child
    → rest leaf heap (e ∷ es) (suc m) ≡ front_of e ++ to_show leaf heap (next_of true e ∷ es) child m
step-terms leaf heap e es child m (inl is) has =
    step-tuple leaf heap e es child m is has ∙ ap (λ k. front_by e k ++ to_show leaf heap (next_of true e ∷ es) child m) (sym is)
step-terms leaf heap e es child m (inr (inl is)) has =
    step-flat leaf heap e es child (is_value e.next) m is refl has ∙ ap (λ k. front_by e k ++ to_show leaf heap (next_of true e ∷ es) child m) (sym is)
step-terms leaf heap e es child m (inr (inr is)) has =
    step-pair leaf heap e es child e.next m is refl has ∙ ap (λ k. front_by e k ++ to_show leaf heap (next_of true e ∷ es) child m) (sym is)

-- items: a map ends behind them, and an inner node hands on where they stand

abbrev ending : (Value → List ℕ) → Bool → List Cell → List Entry → Shown Stand → List ℕ
ending leaf false heap es l = run (closed l) (rest leaf heap es)
ending leaf true heap es l = run l (resume leaf heap es)

ending-followed : (leaf : Value → List ℕ) (b : Bool) (heap : List Cell) (es : List Entry) (first : Shown Stand) (second : Bool → ℕ → Shown Stand)
    → ending leaf b heap es (first then go_on second) ≡ first.text ++ ending leaf b heap es (go_on second first.left)
ending-followed leaf false heap es first second =
    let last = go_on second first.left in
    ap (λ l. l ++ rest leaf heap es (closed last).left) (append_assoc first.text last.text (codes "}")) ∙ append_assoc first.text (last.text ++ codes "}") (rest leaf heap es (closed last).left)
ending-followed leaf true heap es first second =
    append_assoc first.text (go_on second first.left).text (resume leaf heap es (go_on second first.left).left)

items-at : (leaf : Value → List ℕ) (heap : List Cell) (e : Entry) (es : List Entry) (came : Bool) (m : ℕ) (k : NodeKind) → e.kind ≡ k → HasItems k
    → resume leaf heap (e ∷ es) (At came m) ≡ ending leaf (is_item k) heap es (items_text leaf came (left_of heap e es) m)
items-at leaf heap e es came m kinds.Hash is has = term-at leaf heap e es came m kinds.Hash is refl
items-at leaf heap e es came m kinds.Inner is has = item-at leaf heap e es came m kinds.Inner is refl
items-at leaf heap e es came m k is (inl h) = cc
items-at leaf heap e es came m k is (inr h) = cc

cut-ending : (leaf : Value → List ℕ) (b : Bool) (heap : List Cell) (es : List Entry) → cond b (resume leaf heap es Cut) (codes "}" ++ rest leaf heap es 0) ≡ ending leaf b heap es (shown [] Cut)
cut-ending leaf true heap es = refl
cut-ending leaf false heap es = refl

-- behind one child more
items-next : (leaf : Value → List ℕ) (heap : List Cell) (c : Bool) (e : Entry) (es : List Entry) (stand : Stand) → HasItems e.kind
    → resume leaf heap (next_of c e ∷ es) stand ≡ ending leaf (is_item e.kind) heap es (go_on (λ b. items_text leaf b (left_of heap (next_of c e) es)) stand)
items-next leaf heap c e es Cut has = cut-ending leaf (is_item e.kind) heap es
items-next leaf heap c e es (At came m) has = items-at leaf heap (next_of c e) es came m e.kind refl has

pub step-items : (leaf : Value → List ℕ) (heap : List Cell) (c : Bool) (e : Entry) (es : List Entry) (child : Child) (m : ℕ) → HasItems e.kind → HasChild heap e child
    → rest leaf heap (e ∷ es) (suc m) ≡ to_list leaf heap (next_of c e ∷ es) e.came child m
step-items leaf heap c e es child m has at =
    let t = unfolded heap (path_of heap (next_of c e ∷ es)) child in
    let ts = left_of heap (next_of c e) es in
    let first = item_text leaf e.came t m in
    items-at leaf heap e es e.came (suc m) e.kind refl has
    ∙ ap (λ l. ending leaf (is_item e.kind) heap es (items_text leaf e.came l (suc m))) (left-more heap c e es child at)
    ∙ ending-followed leaf (is_item e.kind) heap es first (λ b. items_text leaf b ts)
    ∙ ap (λ l. first.text ++ l) (sym (items-next leaf heap c e es first.left has))

-- a visited item, by what it opens

list-as : (leaf : Value → List ℕ) (heap : List Cell) (entries : List Entry) (came : Bool) (child : Child) (t : Tree) (m : ℕ) → unfolded heap (path_of heap entries) child ≡ t
    → to_list leaf heap entries came child m ≡ run (item_text leaf came t m) (resume leaf heap entries)
list-as leaf heap entries came child t m is = ap (λ t. run (item_text leaf came t m) (resume leaf heap entries)) is

pub list-bad : (leaf : Value → List ℕ) (heap : List Cell) (entries : List Entry) (came : Bool) (child : Child) (address : ℕ) (why : Why) (m : ℕ) → length entries ≤ length heap
    → IsOpened heap (path_of heap entries) child (opened.Bad address why) → to_list leaf heap entries came child m ≡ (comma_text came ++ bad_text address why) ++ resume leaf heap entries (At true m)
list-bad leaf heap entries came child address why m few is = list-as leaf heap entries came child (Bad address why) m (unfolded-as heap entries child _ few is)

entered-item : (leaf : Value → List ℕ) (k : NodeKind) (came : Bool) (ts : Trees) (m : ℕ) → is_item k ≡ true → item_text leaf came (Branch k ts) m ≡ item_rest leaf k came 0 ts m
entered-item leaf kinds.Inner came ts m h = refl
entered-item leaf kinds.Pair came ts m h = sym (pair-first leaf came ts m)
entered-item leaf k came ts m h = cc

-- all but a bad one
pub list-opened : (leaf : Value → List ℕ) (heap : List Cell) (c : Bool) (e : Entry) (es : List Entry) (child : Child) (o : Opened) (m : ℕ) → length (e ∷ es) ≤ length heap → is_item_child child ≡ true
    → IsOpened heap (path_of heap (e ∷ es)) child o → ((address : ℕ) (why : Why) → o ≡ opened.Bad address why → ⊥)
    → to_list leaf heap (next_of c e ∷ es) c child m ≡ rest leaf heap (entered_by o c (next_of c e ∷ es)) m
list-opened leaf heap c e es child opened.Immediate m few item is good =
    list-as leaf heap (next_of c e ∷ es) c child (Leaf (Immediate (element_of child))) m (unfolded-as heap (next_of c e ∷ es) child _ few is.0)
list-opened leaf heap c e es child (opened.Leaf ix) m few item is good =
    list-as leaf heap (next_of c e ∷ es) c child (Leaf (OfCell (address_of heap (number ix)) is.at.form)) m (unfolded-as heap (next_of c e ∷ es) child _ few is.opens)
list-opened leaf heap c e es child (opened.Bad address why) m few item is good = absurd (good address why refl)
list-opened leaf heap c e es child (opened.Node ix kind) m few item is good =
    let ts = trees (unfolded heap (address_of heap (number ix) ∷ path_of heap (e ∷ es))) (children_of heap kind (number ix)) in
    let inner : Entry = record { cell = ix; next = 0; kind = kind; came = c } in
    list-as leaf heap (next_of c e ∷ es) c child (Branch kind ts) m (unfolded-as heap (next_of c e ∷ es) child _ few is.opens)
    ∙ ap (λ l. run l (resume leaf heap (next_of c e ∷ es))) (entered-item leaf kind c ts m (is.fits ∙ item))
    ∙ sym (item-at leaf heap inner (next_of c e ∷ es) c m kind refl (is.fits ∙ item))

-- which children are terms

terms-term : (es : List Element) (n : ℕ) (child : Child) → slice_get (terms es) n ≡ Some child → is_item_child child ≡ false
terms-term [] n child h = cc
terms-term (x ∷ es) zero child h = let same : Term x ≡ child = cc in ap is_item_child (sym same)
terms-term (x ∷ es) (suc n) child h = terms-term es n child h

items-item : (a : ℕ) (es : List Element) (n : ℕ) (child : Child) → slice_get (items a es) n ≡ Some child → is_item_child child ≡ true
items-item a [] n child h = cc
items-item a (x ∷ es) zero child h = let same : Item a x ≡ child = cc in ap is_item_child (sym same)
items-item a (x ∷ es) (suc n) child h = items-item a es n child h

pairs-term : (ks vs : List Element) (n : ℕ) (child : Child) → slice_get (pairs ks vs) n ≡ Some child → is_item_child child ≡ false
pairs-term [] vs n child h = cc
pairs-term (k ∷ ks) [] n child h = cc
pairs-term (k ∷ ks) (v ∷ vs) zero child h = let same : Term k ≡ child = cc in ap is_item_child (sym same)
pairs-term (k ∷ ks) (v ∷ vs) (suc zero) child h = let same : Term v ≡ child = cc in ap is_item_child (sym same)
pairs-term (k ∷ ks) (v ∷ vs) (suc (suc n)) child h = pairs-term ks vs n child h

flat-term : (heap : List Cell) (es : List Element) (n : ℕ) (child : Child) → slice_get (flat_children heap es) n ≡ Some child → is_item_child child ≡ false
flat-term heap (Ref k ∷ es) n child h = pairs-term (found_elements (form_at_address heap k)) es n child h
flat-term heap es n child h = cc

child-as : (heap : List Cell) (e : Entry) (k : NodeKind) (child : Child) → e.kind ≡ k → HasChild heap e child → slice_get (children_of heap k (number e.cell)) e.next ≡ Some child
child-as heap e k child is has = ap (λ k. slice_get (children_of heap k (number e.cell)) e.next) (sym is) ∙ has

pub cons-term : (heap : List Cell) (e : Entry) (child : Child) → e.kind ≡ kinds.Cons → HasChild heap e child → is_item_child child ≡ false
cons-term heap e child is has = terms-term (take 2 (elements_at heap (number e.cell))) e.next child (child-as heap e kinds.Cons child is has)

tuple-term : (heap : List Cell) (e : Entry) (child : Child) → e.kind ≡ kinds.Tuple → HasChild heap e child → is_item_child child ≡ false
tuple-term heap e child is has = terms-term (elements_at heap (number e.cell)) e.next child (child-as heap e kinds.Tuple child is has)

pair-term : (heap : List Cell) (e : Entry) (child : Child) → e.kind ≡ kinds.Pair → HasChild heap e child → is_item_child child ≡ false
pair-term heap e child is has = terms-term (take 2 (elements_at heap (number e.cell))) e.next child (child-as heap e kinds.Pair child is has)

map-term : (heap : List Cell) (e : Entry) (child : Child) → e.kind ≡ kinds.Flat → HasChild heap e child → is_item_child child ≡ false
map-term heap e child is has = flat-term heap (elements_at heap (number e.cell)) e.next child (child-as heap e kinds.Flat child is has)

pub terms-child : (heap : List Cell) (e : Entry) (child : Child) → HasTerms e.kind → HasChild heap e child → is_item_child child ≡ false
terms-child heap e child (inl is) has = tuple-term heap e child is has
terms-child heap e child (inr (inl is)) has = map-term heap e child is has
terms-child heap e child (inr (inr is)) has = pair-term heap e child is has

pub items-child : (heap : List Cell) (e : Entry) (child : Child) → HasItems e.kind → HasChild heap e child → is_item_child child ≡ true
items-child heap e child (inl is) has = items-item (address_of heap (number e.cell)) (members_in (form_at heap (number e.cell))) e.next child (child-as heap e kinds.Hash child is has)
items-child heap e child (inr is) has = items-item (address_of heap (number e.cell)) (members_in (form_at heap (number e.cell))) e.next child (child-as heap e kinds.Inner child is has)
