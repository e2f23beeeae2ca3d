-- Marking a cell and putting it on the list.
use Rattle.std.proofs.Common.{◌≡◌, ℕ, zero, suc, ◌<◌, ◌≤◌, Bool, true, false, ◌||◌, ◌⊎◌, nat_eq, List, [], ◌∷◌, ◌++◌, length, get_or, set, MatchOption, Option, None, Some, option_to_list, refl, sym, ◌∙◌, ap, subst, inl, inr, arith}
use Rattle.std.specs.Prelude.{reverse}
use Rattle.std.specs.List.{IsDistinct}
use Rattle.std.proofs.lemmas.List.{length-set, length-reverse, get_or-set_same, get_or-set_other, reverse-append}
use Rattle.std.proofs.lemmas.Bool.{cases_eq, eq-eqb, false≢true, or_cases, or_right, eqb-true}
use Rattle.std.proofs.lemmas.Map.Steps.{length-le_from_distinct_below}
use Rattle.dump_io.specs.Laws.Lists.{none_passes}
use Rattle.cell_graphs.specs.Reached.{IsIn}
use Rattle.cell_graphs.specs.Frontiers.{Frontier, is_on, IsTied, Adds}

pub reverse-push : (items : List ℕ) (c : ℕ) → reverse (items ++ c ∷ []) ≡ c ∷ reverse items
reverse-push items c = reverse-append items (c ∷ [])

-- ---- no more cells wait than there are marks

-- different numbers, and one more that isn't among them, are different
distinct-more : (c : ℕ) (cs : List ℕ) → is_on c cs ≡ false → IsDistinct nat_eq cs → IsDistinct nat_eq (c ∷ cs)
unfolding IsDistinct
distinct-more c cs other distinct = (none_passes (nat_eq c) cs other, distinct)

below-marked : (marks : List Bool) (n : ℕ) → IsIn marks n → n < length marks
below-marked [] zero is = absurd (false≢true is)
below-marked [] (suc n) is = absurd (false≢true is)
below-marked (b ∷ marks) zero is = omega arith
below-marked (b ∷ marks) (suc n) is = omega (arith, below-marked marks n is)

length-waiting : (marks : List Bool) (waiting : List ℕ) → IsDistinct nat_eq waiting → ((n : ℕ) → is_on n waiting ≡ true → IsIn marks n) → length waiting ≤ length marks
length-waiting marks waiting distinct marked =
    length-le_from_distinct_below waiting (length marks) distinct (λ n on. below-marked marks n (marked n on))

-- ---- a mark is set

pub gets-set : (marks : List Bool) (c n : ℕ) → c < length marks → n ≡ c → IsIn (set marks c true) n
gets-set marks c n lt same = subst (λ x. get_or (set marks c true) x false ≡ true) (sym same) (get_or-set_same marks c true false lt)

pub had-set : (marks : List Bool) (c n : ℕ) → c < length marks → IsIn marks n → IsIn (set marks c true) n
had-set marks c n lt is = elim (cases_eq n c) [ inl same ↦ gets-set marks c n lt same | inr other ↦ get_or-set_other marks c n true false other ∙ is ]

waits-here : (waiting : List ℕ) (c n : ℕ) → n ≡ c → is_on n (c ∷ waiting) ≡ true
waits-here waiting c n same = ap (λ b. b || is_on n waiting) (eq-eqb n c same)

-- ---- a cell comes to wait

-- a cell that isn't marked doesn't wait
is_on-none : (marks : List Bool) (waiting : List ℕ) (c : ℕ) (b : Bool) → is_on c waiting ≡ b → ((n : ℕ) → is_on n waiting ≡ true → IsIn marks n) → get_or marks c false ≡ false → b ≡ false
is_on-none marks waiting c true is marked off = absurd (false≢true (sym off ∙ marked c is))
is_on-none marks waiting c false is marked off = refl

marked-push : (marks : List Bool) (waiting : List ℕ) (c n : ℕ) → c < length marks → ((k : ℕ) → is_on k waiting ≡ true → IsIn marks k) → is_on n (c ∷ waiting) ≡ true → IsIn (set marks c true) n
marked-push marks waiting c n lt marked on =
    elim (or_cases (nat_eq n c) (is_on n waiting) on) [
      | inl here ↦ gets-set marks c n lt (eqb-true n c here)
      | inr later ↦ had-set marks c n lt (marked n later)
    ]

pub IsTied-push : (marks : List Bool) (capacity : ℕ) (before after : List ℕ) (c : ℕ) → IsTied marks capacity before → c < length marks → get_or marks c false ≡ false → after ≡ c ∷ before
    → IsTied (set marks c true) capacity after
IsTied-push marks capacity before after c tied lt off pushed =
    let distinct : IsDistinct nat_eq (c ∷ before) = distinct-more c before (is_on-none marks before c (is_on c before) refl tied.marked off) tied.distinct in
    let marked : (n : ℕ) → is_on n (c ∷ before) ≡ true → IsIn (set marks c true) n = λ n on. marked-push marks before c n lt tied.marked on in
    subst (λ ws. IsTied (set marks c true) capacity ws) (sym pushed) (record {
      room = tied.room ∙ sym (length-set marks c true);
      distinct = distinct;
      marked = marked;
      bound = length-waiting (set marks c true) (c ∷ before) distinct marked;
    })

-- what waits is tied to the marks if nothing waits
pub IsTied-none : (marks : List Bool) (capacity : ℕ) (waiting : List ℕ) → capacity ≡ length marks → waiting ≡ [] → IsTied marks capacity (reverse waiting)
unfolding IsDistinct
IsTied-none marks capacity waiting room none =
    subst (λ ws. IsTied marks capacity (reverse ws)) (sym none)
    (record { room = room; distinct = tt; marked = λ n on. absurd (false≢true on); bound = omega arith })

-- what waits stays tied to the marks when one cell waits no more, or none did
tied-rest : (marks : List Bool) (capacity : ℕ) (popped : Option ℕ) (rest : List ℕ) → IsTied marks capacity (reverse (option_to_list popped) ++ rest) → IsTied marks capacity rest
unfolding IsDistinct
tied-rest marks capacity None rest tied = tied
tied-rest marks capacity (Some c) rest tied =
    record {
      room = tied.room;
      distinct = tied.distinct.1;
      marked = λ n on. tied.marked n (or_right (nat_eq n c) (is_on n rest) on);
      bound = omega (arith, tied.bound);
    }

tied-split : (marks : List Bool) (capacity : ℕ) (before after : List ℕ) (popped : Option ℕ) → IsTied marks capacity (reverse before) → before ≡ after ++ option_to_list popped
    → IsTied marks capacity (reverse (option_to_list popped) ++ reverse after)
tied-split marks capacity before after popped tied was =
    subst (IsTied marks capacity) (ap reverse was ∙ reverse-append after (option_to_list popped)) tied

pub IsTied-pop : (marks : List Bool) (capacity room : ℕ) (before after : List ℕ) (popped : Option ℕ) → IsTied marks capacity (reverse before) → room ≡ capacity
    → before ≡ after ++ option_to_list popped → IsTied marks room (reverse after)
IsTied-pop marks capacity room before after popped tied same was =
    subst (λ r. IsTied marks r (reverse after)) (sym same) (tied-rest marks capacity popped (reverse after) (tied-split marks capacity before after popped tied was))

-- a number that waits no more is that of one of the cells
popped-within : (marks : List Bool) (capacity : ℕ) (popped : Option ℕ) (rest : List ℕ) → IsTied marks capacity (reverse (option_to_list popped) ++ rest)
    → MatchOption popped (rest ≡ []) (λ c. Unit {0}) → MatchOption popped (rest ≡ []) (λ c. c < length marks)
popped-within marks capacity None rest tied none = none
popped-within marks capacity (Some c) rest tied none = below-marked marks c (tied.marked c (waits-here rest c c refl))

pub IsTied-popped : (marks : List Bool) (capacity : ℕ) (before after : List ℕ) (popped : Option ℕ) → IsTied marks capacity (reverse before) → before ≡ after ++ option_to_list popped
    → MatchOption popped (reverse after ≡ []) (λ c. Unit {0}) → MatchOption popped (reverse after ≡ []) (λ c. c < length marks)
IsTied-popped marks capacity before after popped tied was none =
    popped-within marks capacity popped (reverse after) (tied-split marks capacity before after popped tied was) none

-- there is room for one more
pub IsTied-room : (marks : List Bool) (capacity : ℕ) (items : List ℕ) (c : ℕ) → IsTied marks capacity (reverse items) → c < length marks → get_or marks c false ≡ false → length items < capacity
IsTied-room marks capacity items c tied lt off =
    let pushed = IsTied-push marks capacity (reverse items) (c ∷ reverse items) c tied lt off refl in
    omega (arith, pushed.room, pushed.bound, length-reverse items)

-- ---- sets of cells are added

-- one set and then another
pub Adds-then : (a b c : Frontier) (P Q R : ℕ → Type 0) → Adds a b P → Adds b c Q → ((n : ℕ) → R n → P n ⊎ Q n) → ((n : ℕ) → P n → R n) → ((n : ℕ) → Q n → R n) → Adds a c R
Adds-then a b c P Q R one two parts left right = record {
  cells = two.cells ∙ one.cells;
  room = two.room ∙ one.room;
  had = λ n is. two.had n (one.had n is);
  gets = λ n r. elim (parts n r) [ inl p ↦ two.had n (one.gets n p) | inr q ↦ two.gets n q ];
  only = λ n is. elim (two.only n is) [
    | inl before ↦ elim (one.only n before) [ inl was ↦ inl was | inr p ↦ inr (left n p) ]
    | inr q ↦ inr (right n q)
  ];
  kept = λ n on. two.kept n (one.kept n on);
  waits = λ n is. elim (two.waits n is) [
    | inl before ↦ elim (one.waits n before) [ inl was ↦ inl was | inr on ↦ inr (two.kept n on) ]
    | inr on ↦ inr on
  ];
  work = two.work ∙ one.work;
}

-- a set in other words
pub Adds-same : (a b : Frontier) (P Q : ℕ → Type 0) → Adds a b P → ((n : ℕ) → P n → Q n) → ((n : ℕ) → Q n → P n) → Adds a b Q
Adds-same a b P Q adds there back = record {
  cells = adds.cells;
  room = adds.room;
  had = adds.had;
  gets = λ n q. adds.gets n (back n q);
  only = λ n is. elim (adds.only n is) [ inl was ↦ inl was | inr p ↦ inr (there n p) ];
  kept = adds.kept;
  waits = adds.waits;
  work = adds.work;
}
