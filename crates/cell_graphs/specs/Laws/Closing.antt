-- As many rounds as there are cells find what a set reaches.
use Rattle.std.proofs.Common.{◌≡◌, ℕ, zero, suc, ◌+◌, ◌<◌, ◌≤◌, Bool, true, false, ◌&&◌, ◌⊎◌, length, refl, ◌∙◌, ap, subst, inl, inr, arith}
use Rattle.std.proofs.lemmas.Bool.{and_parts, cases_lt, false≢true, or_cases, or_left, or_right}
use Rattle.cell_graphs.specs.Graphs.{Graph, Leads, LeadsWithin}
use Rattle.cell_graphs.specs.Reached.{Reached, root, step}
use Rattle.cell_graphs.specs.Rounds.{after_rounds, is_led, leads_to, reached_from}
use Rattle.cell_graphs.specs.Counts.{count_below, one_if}
use Rattle.cell_graphs.specs.Laws.Leading.{leads-from, leads-tested, tested-leads}
use Rattle.cell_graphs.specs.Laws.Spreading.{reached-closed}

-- ---- how many of the first n numbers are in a set

one-most : (b : Bool) → one_if b ≤ 1
one-most true = omega arith
one-most false = omega arith

pub count-most : (p : ℕ → Bool) (n : ℕ) → count_below p n ≤ n
count-most p zero = omega arith
count-most p (suc n) = omega (arith, count-most p n, one-most (p n))

-- with one more number a greater set has more numbers than a smaller
-- one, or no fewer, and this number only if the smaller set has it
count-step : (a b : Bool) (x y : ℕ) → x ≤ y → (a ≡ true → b ≡ true) → (x + one_if a < y + one_if b) ⊎ ((x + one_if a ≤ y + one_if b) × (b ≡ true → a ≡ true))
count-step true true x y le more = inr (omega (arith, le), λ is. refl)
count-step true false x y le more = absurd (false≢true (more refl))
count-step false true x y le more = inl (omega (arith, le))
count-step false false x y le more = inr (omega (arith, le), λ is. is)

-- a greater set has more of the first n numbers, or the same ones
abbrev IsMore : (ℕ → Bool) → (ℕ → Bool) → ℕ → Type 0
IsMore p q n = (count_below p n < count_below q n) ⊎ ((count_below p n ≤ count_below q n) × ((k : ℕ) → k < n → q k ≡ true → p k ≡ true))

same-below : (p q : ℕ → Bool) (n : ℕ) → ((k : ℕ) → k < n → q k ≡ true → p k ≡ true) → (q n ≡ true → p n ≡ true) → (k : ℕ) → k < suc n → q k ≡ true → p k ≡ true
same-below p q n before here k lt is =
    elim (cases_lt k n) [
      | inl less ↦ before k less is
      | inr past ↦ let same : n ≡ k = omega (arith, lt, past) in subst (λ j. q j ≡ true → p j ≡ true) same here is
    ]

count-more : (p q : ℕ → Bool) (n : ℕ) → ((k : ℕ) → p k ≡ true → q k ≡ true) → IsMore p q n
count-more p q zero more = inr (omega arith, λ k lt. absurd (omega (arith, lt)))
count-more p q (suc n) more =
    elim (count-more p q n more) [
      | inl less ↦ inl (less-step (p n) (q n) less (more n))
      | inr same ↦ elim (count-step (p n) (q n) (count_below p n) (count_below q n) same.0 (more n)) [
        | inl less ↦ inl less
        | inr here ↦ inr (here.0, same-below p q n same.1 here.1)
      ]
    ]
  where
    less-step : (a b : Bool) → count_below p n < count_below q n → (a ≡ true → b ≡ true) → count_below p n + one_if a < count_below q n + one_if b
    less-step true true less up = omega (arith, less)
    less-step true false less up = absurd (false≢true (up refl))
    less-step false true less up = omega (arith, less)
    less-step false false less up = omega (arith, less)

-- a set that has as many of them as there are has each
count-all : (p : ℕ → Bool) (n : ℕ) → n ≤ count_below p n → (k : ℕ) → k < n → p k ≡ true
count-all p zero many k lt = absurd (omega (arith, lt))
count-all p (suc n) many k lt =
    elim (cases_lt k n) [
      | inl less ↦ count-all p n (omega (arith, many, one-most (p n))) k less
      | inr past ↦ let same : n ≡ k = omega (arith, lt, past) in subst (λ j. p j ≡ true) same (last (p n) many)
    ]
  where
    last : (b : Bool) → suc n ≤ count_below p n + one_if b → b ≡ true
    last true all = refl
    last false all = absurd (omega (arith, all, count-most p n))

module _ (graph : Graph) where
  -- ---- one round

  led-true : (set : ℕ → Bool) (count m n : ℕ) → m < count → set m ≡ true → Leads graph m n → is_led graph set count n ≡ true
  led-true set zero m n lt is leads = absurd (omega (arith, lt))
  led-true set (suc c) m n lt is leads =
      elim (cases_lt m c) [
        | inl less ↦ or_left (is_led graph set c n) (set c && leads_to graph c n) (led-true set c m n less is leads)
        | inr past ↦
            let same : m ≡ c = omega (arith, lt, past) in
            or_right (is_led graph set c n) (set c && leads_to graph c n)
            (subst (λ j. (set j && leads_to graph j n) ≡ true) same (ap (λ b. b && leads_to graph m n) is ∙ leads-tested graph m n leads))
      ]

  true-led : (set : ℕ → Bool) (count n : ℕ) → is_led graph set count n ≡ true → (m : ℕ) × (set m ≡ true) × Leads graph m n
  true-led set zero n is = absurd (false≢true is)
  true-led set (suc c) n is =
      elim (or_cases (is_led graph set c n) (set c && leads_to graph c n) is) [
        | inl before ↦ true-led set c n before
        | inr here ↦ let both = and_parts (set c) (leads_to graph c n) here in (c, both.0, tested-leads graph c n both.1)
      ]

  -- the set has, with a cell, each to which that leads
  abbrev IsShut : (ℕ → Bool) → Type 0
  IsShut set = (m n : ℕ) → set m ≡ true → Leads graph m n → set n ≡ true

  module _ (begun : ℕ → Bool) where
    abbrev rounds : ℕ → ℕ → Bool
    rounds k = after_rounds k graph begun

    round-kept : (k n : ℕ) → rounds k n ≡ true → rounds (suc k) n ≡ true
    round-kept k n is = or_left (rounds k n) (is_led graph (rounds k) (length graph) n) is

    -- with a cell of the set the next has each to which that leads
    round-leads : (k m n : ℕ) → rounds k m ≡ true → Leads graph m n → rounds (suc k) n ≡ true
    round-leads k m n is leads =
        or_right (rounds k n) (is_led graph (rounds k) (length graph) n) (led-true (rounds k) (length graph) m n (leads-from graph m n leads) is leads)

    shut-next : (k : ℕ) → IsShut (rounds k) → IsShut (rounds (suc k))
    shut-next k shut m n is leads =
        round-kept k n (shut m n (elim (or_cases (rounds k m) (is_led graph (rounds k) (length graph) m) is) [
          | inl was ↦ was
          | inr led ↦ let l = true-led (rounds k) (length graph) m led in shut l.0 m l.1 l.2
        ]) leads)

    -- each round adds a cell, until the set is closed
    shut-or-many : LeadsWithin graph → (k : ℕ) → IsShut (rounds k) ⊎ (k ≤ count_below (rounds k) (length graph))
    shut-or-many within zero = inr (omega arith)
    shut-or-many within (suc k) =
        elim (shut-or-many within k) [
          | inl shut ↦ inl (shut-next k shut)
          | inr many ↦ elim (count-more (rounds k) (rounds (suc k)) (length graph) (round-kept k)) [
            | inl less ↦ inr (omega (arith, many, less))
            | inr same ↦ inl (shut-next k (λ m n is leads. same.1 n (within m n leads) (round-leads k m n is leads)))
          ]
        ]

    shut-end : LeadsWithin graph → IsShut (rounds (length graph))
    shut-end within =
        elim (shut-or-many within (length graph)) [
          | inl shut ↦ shut
          | inr many ↦ λ m n is leads. count-all (rounds (length graph)) (length graph) many n (within m n leads)
        ]

    begun-kept : (k n : ℕ) → begun n ≡ true → rounds k n ≡ true
    begun-kept zero n is = is
    begun-kept (suc k) n is = round-kept k n (begun-kept k n is)

    round-reached : (k n : ℕ) → rounds k n ≡ true → Reached graph (λ j. begun j ≡ true) n
    round-reached zero n is = root n is
    round-reached (suc k) n is =
        elim (or_cases (rounds k n) (is_led graph (rounds k) (length graph) n) is) [
          | inl was ↦ round-reached k n was
          | inr led ↦ let l = true-led (rounds k) (length graph) n led in step l.0 n (round-reached k l.0 l.1) l.2
        ]

    -- what the rounds find is reached
    pub found-reached : (n : ℕ) → reached_from graph begun n ≡ true → Reached graph (λ j. begun j ≡ true) n
    found-reached n is = round-reached (length graph) n is

    -- what a set reaches the rounds find
    pub reached-found : LeadsWithin graph → (n : ℕ) → Reached graph (λ j. begun j ≡ true) n → reached_from graph begun n ≡ true
    reached-found within n is = reached-closed graph (λ j. begun j ≡ true) (λ j. rounds (length graph) j ≡ true) n is (begun-kept (length graph)) (shut-end within)
