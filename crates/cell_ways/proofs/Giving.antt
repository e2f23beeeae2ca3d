-- Numbers that cells are given.
use Rattle.std.proofs.Common.{◌≡◌, ℕ, ◌+◌, ◌<◌, Bool, true, false, ◌&&◌, ◌||◌, nat_eq, List, [], ◌∷◌, ◌++◌, length, set, take, Option, None, Some, refl, sym, ◌∙◌, ap, ap₂, subst, inl, inr, arith, append_assoc, append-nil}
use Rattle.std.specs.Prelude.{All, is_none, slice_get, slice_index_or, if◌then◌else◌}
use Rattle.std.specs.List.{list_any}
use Rattle.std.proofs.lemmas.Bool.{cases_eq, eq-eqb, ne_eqb, false≢true}
use Rattle.std.proofs.lemmas.List.{length-set, get_or-set_same, get_or-set_other}
use Rattle.std.proofs.lemmas.List.Elements.{All-nil, All-append, All-push}
use Rattle.std.proofs.lemmas.List.Folds.{list_any-append}
use Rattle.dump_io.specs.Laws.Lists.{take-at}
use Rattle.cell_graphs.specs.Frontiers.{is_on}
use Rattle.cell_ways.specs.Ways.{at_cell, known, nowhere}
use Rattle.cell_ways.specs.declared.search.Search.{Search}
use Rattle.cell_ways.specs.Inner.Search.{or_given, Finds, Gives}

-- ---- one number

pub known-some : (number : ℕ) → number < nowhere → known number ≡ Some number
known-some number small = ap (λ b. if b then None else Some number) (ne_eqb number nowhere (λ is. absurd (omega (arith, small, is))))

known-none : (number : ℕ) → number ≡ nowhere → known number ≡ None
known-none number is = ap known is

-- a number that is given to a cell that has none
given-here : (b : Bool) (number : ℕ) (before : Option ℕ) → b ≡ true → before ≡ None → Some number ≡ or_given number b before
given-here b number before is none = sym (ap₂ (λ c o. or_given number c o) is none)

-- a number that isn't given
pub not-given : (number : ℕ) (before : Option ℕ) → before ≡ or_given number false before
not-given number None = refl
not-given number (Some x) = refl

pub had-given : (number : ℕ) (b : Bool) (before : Option ℕ) → is_none before ≡ false → before ≡ or_given number b before
had-given number b None has = absurd (false≢true (sym has))
had-given number b (Some x) has = refl

-- a cell is given a number
pub gives-one : (numbers : List ℕ) (cell number : ℕ) → cell < length numbers → number < nowhere → slice_index_or numbers cell nowhere ≡ nowhere
    → Gives numbers (set numbers cell number) number (nat_eq cell)
gives-one numbers cell number lt small none = record {
  size = length-set numbers cell number;
  each = λ n inside. elim (cases_eq n cell) [
    | inl same ↦
        subst (λ m. at_cell (set numbers cell number) m ≡ or_given number (nat_eq cell m) (at_cell numbers m)) (sym same)
        (ap known (get_or-set_same numbers cell number nowhere lt) ∙ known-some number small
        ∙ given-here (nat_eq cell cell) number (at_cell numbers cell) (eq-eqb cell cell refl) (ap known none))
    | inr other ↦
        ap known (get_or-set_other numbers cell n number nowhere other)
        ∙ not-given number (at_cell numbers n)
        ∙ ap (λ b. or_given number b (at_cell numbers n)) (sym (ne_eqb cell n (λ is. other (sym is))))
  ];
}

-- a cell has a number
pub gives-had : (numbers : List ℕ) (cell number : ℕ) → is_none (at_cell numbers cell) ≡ false → Gives numbers numbers number (nat_eq cell)
gives-had numbers cell number has = record {
  size = refl;
  each = λ n inside. elim (cases_eq n cell) [
    | inl same ↦
        subst (λ m. at_cell numbers m ≡ or_given number (nat_eq cell m) (at_cell numbers m)) (sym same)
        (had-given number (nat_eq cell cell) (at_cell numbers cell) has)
    | inr other ↦
        not-given number (at_cell numbers n)
        ∙ ap (λ b. or_given number b (at_cell numbers n)) (sym (ne_eqb cell n (λ is. other (sym is))))
  ];
}

pub gives-none : (numbers : List ℕ) (number : ℕ) (which : ℕ → Bool) → ((n : ℕ) → which n ≡ false) → Gives numbers numbers number which
gives-none numbers number which none = record {
  size = refl;
  each = λ n inside. not-given number (at_cell numbers n) ∙ ap (λ b. or_given number b (at_cell numbers n)) (sym (none n));
}

given-twice : (number : ℕ) (p q : Bool) (before : Option ℕ) → or_given number q (or_given number p before) ≡ or_given number (p || q) before
given-twice number true q None = refl
given-twice number false true None = refl
given-twice number false false None = refl
given-twice number p q (Some x) = refl

pub gives-then : (a b c : List ℕ) (number : ℕ) (P Q R : ℕ → Bool) → Gives a b number P → Gives b c number Q → ((n : ℕ) → R n ≡ (P n || Q n)) → Gives a c number R
gives-then a b c number P Q R one two both = record {
  size = two.size ∙ one.size;
  each = λ n inside.
      two.each n (omega (arith, inside, one.size))
      ∙ ap (or_given number (Q n)) (one.each n inside)
      ∙ given-twice number (P n) (Q n) (at_cell a n)
      ∙ ap (λ r. or_given number r (at_cell a n)) (sym (both n));
}

pub gives-same : (a b : List ℕ) (number : ℕ) (P Q : ℕ → Bool) → Gives a b number P → ((n : ℕ) → Q n ≡ P n) → Gives a b number Q
gives-same a b number P Q one same = record {
  size = one.size;
  each = λ n inside. one.each n inside ∙ ap (λ r. or_given number r (at_cell a n)) (sym (same n));
}

-- ---- cells that are found

-- nothing is found
pub finds-none : (s : Search) (depth : ℕ) (which : ℕ → Bool) → ((n : ℕ) → which n ≡ false) → Finds s s depth which
finds-none s depth which none = record {
  gives = gives-none s.depths.items depth which none;
  found = [];
  queue = sym (append-nil s.queue.items);
  within = All-nil (λ n. n < length s.depths.items);
  which = λ n inside. ap (λ b. b && is_none (at_cell s.depths.items n)) (sym (none n));
}

no-more : (p q : Bool) → q ≡ false → false ≡ (p && q)
no-more true q is = sym is
no-more false q is = refl

-- a cell that has a depth is not found
pub finds-had : (a b : Search) (depths after : List ℕ) (cell depth : ℕ) → depths ≡ a.depths.items → b.depths.items ≡ after → Gives depths after depth (nat_eq cell) → b.queue.items ≡ a.queue.items
    → is_none (at_cell depths cell) ≡ false → Finds a b depth (nat_eq cell)
finds-had a b depths after cell depth same end gives queue had =
    let has : is_none (at_cell a.depths.items cell) ≡ false = ap (λ ds. is_none (at_cell ds cell)) (sym same) ∙ had in record {
      gives = subst (λ ds. Gives a.depths.items ds depth (nat_eq cell)) (sym end) (subst (λ ds. Gives ds after depth (nat_eq cell)) same gives);
      found = [];
      queue = queue ∙ sym (append-nil a.queue.items);
      within = All-nil (λ n. n < length a.depths.items);
      which = λ n inside. elim (cases_eq n cell) [
        | inl same ↦ subst (λ m. false ≡ (nat_eq cell m && is_none (at_cell a.depths.items m))) (sym same) (no-more (nat_eq cell cell) (is_none (at_cell a.depths.items cell)) has)
        | inr other ↦ ap (λ b. b && is_none (at_cell a.depths.items n)) (sym (ne_eqb cell n (λ is. other (sym is))))
      ];
    }

-- a cell is found that has none
pub finds-one : (a b : Search) (depths : List ℕ) (cell depth : ℕ) → depths ≡ a.depths.items → Gives depths b.depths.items depth (nat_eq cell) → b.queue.items ≡ a.queue.items ++ cell ∷ []
    → cell < length a.depths.items → is_none (at_cell depths cell) ≡ true → Finds a b depth (nat_eq cell)
finds-one a b depths cell depth same gives queue lt had =
    let none : is_none (at_cell a.depths.items cell) ≡ true = ap (λ ds. is_none (at_cell ds cell)) (sym same) ∙ had in record {
      gives = subst (λ ds. Gives ds b.depths.items depth (nat_eq cell)) same gives;
      found = cell ∷ [];
      queue = queue;
      within = All-push (λ n. n < length a.depths.items) [] cell (All-nil (λ n. n < length a.depths.items)) lt;
      which = λ n inside. elim (cases_eq n cell) [
        | inl same ↦
            subst (λ m. is_on m (cell ∷ []) ≡ (nat_eq cell m && is_none (at_cell a.depths.items m))) (sym same)
            (ap (λ b. b || false) (eq-eqb cell cell refl) ∙ sym (ap₂ (λ p q. p && q) (eq-eqb cell cell refl) none))
        | inr other ↦
            ap (λ b. b || false) (ne_eqb n cell other)
            ∙ ap (λ b. b && is_none (at_cell a.depths.items n)) (sym (ne_eqb cell n (λ is. other (sym is))))
      ];
    }

-- some cells and then others
found-twice : (number : ℕ) (p q : Bool) (before : Option ℕ) → ((p && is_none before) || (q && is_none (or_given number p before))) ≡ ((p || q) && is_none before)
found-twice number true true None = refl
found-twice number true false None = refl
found-twice number false true None = refl
found-twice number false false None = refl
found-twice number true true (Some x) = refl
found-twice number true false (Some x) = refl
found-twice number false true (Some x) = refl
found-twice number false false (Some x) = refl

pub finds-then : (a b c : Search) (depth : ℕ) (P Q R : ℕ → Bool) → Finds a b depth P → Finds b c depth Q → ((n : ℕ) → R n ≡ (P n || Q n)) → Finds a c depth R
finds-then a b c depth P Q R one two both =
    let size = one.gives.size in record {
      gives = gives-then a.depths.items b.depths.items c.depths.items depth P Q R one.gives two.gives both;
      found = one.found ++ two.found;
      queue = two.queue ∙ ap (λ l. l ++ two.found) one.queue ∙ append_assoc a.queue.items one.found two.found;
      within = All-append (λ n. n < length a.depths.items) one.found two.found one.within (subst (λ size. All (λ n. n < size) two.found) size two.within);
      which = λ n inside.
          list_any-append (nat_eq n) one.found two.found
          ∙ ap₂ (λ p q. p || q) (one.which n inside) (two.which n (omega (arith, inside, size)))
          ∙ ap (λ o. (P n && is_none (at_cell a.depths.items n)) || (Q n && is_none o)) (one.gives.each n inside)
          ∙ found-twice depth (P n) (Q n) (at_cell a.depths.items n)
          ∙ ap (λ r. r && is_none (at_cell a.depths.items n)) (sym (both n));
    }

pub finds-same : (a b : Search) (depth : ℕ) (P Q : ℕ → Bool) → Finds a b depth P → ((n : ℕ) → Q n ≡ P n) → Finds a b depth Q
finds-same a b depth P Q one same = record {
  gives = gives-same a.depths.items b.depths.items depth P Q one.gives same;
  found = one.found;
  queue = one.queue;
  within = one.within;
  which = λ n inside. one.which n inside ∙ ap (λ r. r && is_none (at_cell a.depths.items n)) (sym (same n));
}

-- ---- lists of which one more passes

pub or-false : (b : Bool) → (b || false) ≡ b
or-false true = refl
or-false false = refl

pub any-more : {X : Type 0} (p : X → Bool) (xs : List X) (i : ℕ) (x : X) → slice_get xs i ≡ Some x → list_any p (take (i + 1) xs) ≡ (list_any p (take i xs) || p x)
any-more p xs i x at =
    ap (list_any p) (take-at xs i x at) ∙ list_any-append p (take i xs) (x ∷ []) ∙ ap (λ b. list_any p (take i xs) || b) (or-false (p x))

pub and-false : (b : Bool) → (b && false) ≡ false
and-false true = refl
and-false false = refl

pub and-more : (b p q r : Bool) → r ≡ (p || q) → (b && r) ≡ ((b && p) || (b && q))
and-more true p q r is = is
and-more false p q r is = refl

pub same-eq : (m n : ℕ) → nat_eq m n ≡ nat_eq n m
same-eq m n =
    elim (cases_eq m n) [
      | inl same ↦ subst (λ k. nat_eq m k ≡ nat_eq k m) same refl
      | inr other ↦ ne_eqb m n other ∙ sym (ne_eqb n m (λ is. other (sym is)))
    ]
