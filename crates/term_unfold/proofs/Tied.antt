-- What ties marks, stack and line, under each step.
use Rattle.std.proofs.Common.{◌≡◌, ℕ, ◌-◌, ◌<◌, ◌≤◌, Bool, true, false, ◌||◌, eqb, List, [], ◌∷◌, ◌++◌, length, get_or, set, refl, sym, ◌∙◌, ap, subst, inl, inr, arith, length-append}
use Rattle.std.specs.Prelude.{reverse}
use Rattle.std.specs.List.{IsDistinct}
use Rattle.std.proofs.lemmas.List.{length-set, length-map, length-reverse, get_or-set_same, get_or-set_other, get_or_at, set_at, reverse-append, reverse-reverse}
use Rattle.std.proofs.lemmas.Grind.{reverse_onto}
use Rattle.std.proofs.lemmas.Bool.{cases_eq, eq-eqb, eqb-true, false≢true, ne_eqb, or_cases}
use Rattle.std.proofs.lemmas.Map.Steps.{length-le_from_distinct_below}
use Rattle.dump_io.specs.Laws.Lists.{none_passes}
use Rattle.heap_cells.specs.Targets.{number}
use Rattle.term_unfold.specs.declared.path.Entry.{Entry}
use Rattle.term_unfold.specs.Inner.Entries.{Entered, numbers_of, altered, IsLine, IsTied}
use Rattle.term_unfold.specs.Rules.{is_on}

-- a line of numbers has no more cells than there are

distinct : (n : ℕ) (path : List ℕ) → IsLine n path → IsDistinct eqb path
unfolding IsDistinct
distinct n [] h = tt
distinct n (c ∷ cs) h = (none_passes (eqb c) cs h.1, distinct n cs h.2)

below-line : (n q : ℕ) (path : List ℕ) → IsLine n path → is_on q path ≡ true → q < n
below-line n q [] h on = absurd (false≢true on)
below-line n q (c ∷ cs) h on =
    elim (or_cases (eqb q c) (is_on q cs) on) [ inl e ↦ subst (λ x. x < n) (sym (eqb-true q c e)) h.0 | inr e ↦ below-line n q cs h.2 e ]

length-line : (n : ℕ) (path : List ℕ) → IsLine n path → length path ≤ n
length-line n path h = length-le_from_distinct_below path n (distinct n path h) (λ q. below-line n q path h)

-- one more mark and one more cell
is_on-push : (marks : List Bool) (path : List ℕ) (c d : ℕ) → c < length marks → (d < length marks → get_or marks d false ≡ is_on d path) → d < length marks
    → get_or (set marks c true) d false ≡ is_on d (c ∷ path)
is_on-push marks path c d lt was within =
    elim (cases_eq d c) [
      | inl same ↦ let here : eqb d c ≡ true = eq-eqb d c same in
          subst (λ x. get_or (set marks c true) x false ≡ true) (sym same) (get_or-set_same marks c true false lt) ∙ ap (λ b. b || is_on d path) (sym here)
      | inr other ↦ let here : eqb d c ≡ false = ne_eqb d c other in
          get_or-set_other marks c d true false other ∙ was within ∙ ap (λ b. b || is_on d path) (sym here)
    ]

-- one mark less and one cell less
is_on-pop : (marks : List Bool) (path : List ℕ) (c d : ℕ) → c < length marks → is_on c path ≡ false → (d < length marks → get_or marks d false ≡ is_on d (c ∷ path)) → d < length marks
    → get_or (set marks c false) d false ≡ is_on d path
is_on-pop marks path c d lt off was within =
    elim (cases_eq d c) [
      | inl same ↦ subst (λ x. get_or (set marks c false) x false ≡ is_on x path) (sym same) (get_or-set_same marks c false false lt ∙ sym off)
      | inr other ↦ let here : eqb d c ≡ false = ne_eqb d c other in
          get_or-set_other marks c d false false other ∙ was within ∙ ap (λ b. b || is_on d path) here
    ]

pub IsTied-push : (marks : List Bool) (capacity room : ℕ) (before after : List Entry) (e : Entry) → IsTied marks capacity before → room ≡ capacity → IsLine (length marks) (number e.cell ∷ numbers_of before)
    → after ≡ e ∷ before → IsTied (set marks (number e.cell) true) room after
IsTied-push marks capacity room before after e tied more is pushed =
    let c = number e.cell in
    let size : length (set marks c true) ≡ length marks = length-set marks c true in
    let P : List Entry → Type 0 = λ es. IsTied (set marks c true) room es in
    subst P (sym pushed) (record {
      room = omega (arith, size, more, tied.room);
      line = subst (λ n. IsLine n (c ∷ numbers_of before)) (sym size) is;
      marked = λ d within. is_on-push marks (numbers_of before) c d is.0 (tied.marked d) (omega (arith, size, within));
    })

pub IsTied-pop : (marks : List Bool) (capacity room : ℕ) (e : Entry) (before after : List Entry) → IsTied marks capacity before → room ≡ capacity → before ≡ e ∷ after
    → IsTied (set marks (number e.cell) false) room after
IsTied-pop marks capacity room e before after tied more was =
    let size : length (set marks (number e.cell) false) ≡ length marks = length-set marks (number e.cell) false in
    let old : IsTied marks capacity (e ∷ after) = subst (λ es. IsTied marks capacity es) was tied in
    record {
      room = omega (arith, size, more, old.room);
      line = subst (λ n. IsLine n (numbers_of after)) (sym size) old.line.2;
      marked = λ d within. is_on-pop marks (numbers_of after) (number e.cell) d old.line.0 old.line.1 (old.marked d) (omega (arith, size, within));
    }

abbrev KeepsCell : (Entry → Entry) → Type 0
KeepsCell f = (e : Entry) → number (f e).cell ≡ number e.cell

pub numbers-altered : (f : Entry → Entry) (entries : List Entry) → KeepsCell f → numbers_of (altered f entries) ≡ numbers_of entries
numbers-altered f [] keeps = refl
numbers-altered f (e ∷ es) keeps = ap (λ n. n ∷ numbers_of es) (keeps e)

pub IsTied-altered : (marks : List Bool) (capacity : ℕ) (f : Entry → Entry) (before after : List Entry) → KeepsCell f → IsTied marks capacity before → after ≡ altered f before → IsTied marks capacity after
IsTied-altered marks capacity f before after keeps tied step =
    let same : numbers_of after ≡ numbers_of before = ap numbers_of step ∙ numbers-altered f before keeps in
    record {
      room = tied.room;
      line = subst (λ cs. IsLine (length marks) cs) (sym same) tied.line;
      marked = λ d within. tied.marked d within ∙ ap (is_on d) (sym same);
    }

pub reverse-push : (items : List Entry) (e : Entry) → reverse (items ++ e ∷ []) ≡ e ∷ reverse items
reverse-push items e = reverse-append items (e ∷ [])

-- the stack's room is enough
pub IsTied-room : (marks : List Bool) (capacity : ℕ) (items : List Entry) → IsTied marks capacity (reverse items) → length items < capacity
IsTied-room marks capacity items tied =
    omega (arith, tied.room, length-line (length marks) (numbers_of (reverse items)) tied.line, length-map (reverse items) (λ (e : Entry). number e.cell), length-reverse items)

unreversed : (items : List Entry) (e : Entry) (es : List Entry) → reverse items ≡ e ∷ es → items ≡ reverse es ++ e ∷ []
unreversed items e es h = sym (reverse-reverse items) ∙ ap reverse h ∙ reverse_onto es e []

reverse-set_last : (es items : List Entry) (e x : Entry) → items ≡ reverse es ++ e ∷ [] → reverse (set items (length items - 1) x) ≡ x ∷ es
reverse-set_last es items e x is =
    let place : length items - 1 ≡ length (reverse es) = omega (arith, ap length is, length-append (reverse es) (e ∷ [])) in
    ap reverse (ap (λ is. set is (length items - 1) x) is ∙ set_at (reverse es) e [] x (length items - 1) (sym place))
    ∙ reverse-push (reverse es) x ∙ ap (λ rest. x ∷ rest) (reverse-reverse es)

-- the entry at the stack's end is altered
pub altered-last : (f : Entry → Entry) (items entries : List Entry) (x : Entry) (place : ℕ) → reverse items ≡ entries → 0 < length entries → place ≡ length items → x ≡ get_or items (place - 1) x
    → reverse (set items (place - 1) (f x)) ≡ altered f entries
altered-last f items [] x place is some size at = absurd (omega (arith, some))
altered-last f items (e ∷ es) x place is some size at =
    let was : items ≡ reverse es ++ e ∷ [] = unreversed items e es is in
    let here : length (reverse es) ≡ place - 1 = omega (arith, size, ap length was, length-append (reverse es) (e ∷ [])) in
    let same : x ≡ e = at ∙ ap (λ is. get_or is (place - 1) x) was ∙ get_or_at (reverse es) e [] x (place - 1) here in
    ap (λ n. reverse (set items (n - 1) (f x))) size
    ∙ reverse-set_last es items e (f x) was
    ∙ ap (λ z. f z ∷ es) same

abbrev pub entered : ℕ → ℕ → List Entry → Entered
entered cells reserved entries = record { cells = cells; reserved = reserved; entries = entries }

pub Entered-same : (m n r s : ℕ) (xs ys : List Entry) → m ≡ n → r ≡ s → xs ≡ ys → entered m r xs ≡ entered n s ys
Entered-same m n r s xs ys e room f = ap (λ k. entered k r xs) e ∙ ap (λ k. entered n k xs) room ∙ ap (entered n s) f

-- there are no more entries than cells
pub IsTied-few : (marks : List Bool) (capacity : ℕ) (entries : List Entry) → IsTied marks capacity entries → length entries ≤ length marks
IsTied-few marks capacity entries tied =
    omega (arith, length-line (length marks) (numbers_of entries) tied.line, length-map entries (λ (e : Entry). number e.cell))

-- the same at a place that is the cell's number
pub IsTied-pushed : (marks : List Bool) (capacity room p : ℕ) (before after : List Entry) (e : Entry) → p ≡ number e.cell → IsTied marks capacity before → room ≡ capacity
    → IsLine (length marks) (number e.cell ∷ numbers_of before) → after ≡ e ∷ before → IsTied (set marks p true) room after
IsTied-pushed marks capacity room p before after e at tied more is pushed =
    subst (λ q. IsTied (set marks q true) room after) (sym at) (IsTied-push marks capacity room before after e tied more is pushed)

pub IsTied-popped : (marks : List Bool) (capacity room p : ℕ) (e : Entry) (before after : List Entry) → p ≡ number e.cell → IsTied marks capacity before → room ≡ capacity → before ≡ e ∷ after
    → IsTied (set marks p false) room after
IsTied-popped marks capacity room p e before after at tied more was =
    subst (λ q. IsTied (set marks q false) room after) (sym at) (IsTied-pop marks capacity room e before after tied more was)
