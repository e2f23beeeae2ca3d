-- What gets known of cells in sweeps, one lead after the other, and what is known where a sweep changes nothing.
use Rattle.std.proofs.Common.{◌≡◌, ℕ, suc, ◌+◌, ◌-◌, ◌<◌, ◌≤◌, ◌⊎◌, zero, ◌==◌, Bool, true, false, ◌||◌, nat_eq, List, get_or, length, set, Option, None, Some, refl, sym, ◌∙◌, ap, subst, inl, inr, arith}
use Rattle.std.specs.Prelude.{slice_index_or, if◌then◌else◌}
use Rattle.std.proofs.lemmas.Bool.{cases_eq, cases_lt, eqb-true, eq-eqb, false≢true, or_cases, or_left, or_right}
use Rattle.std.proofs.lemmas.List.{length-set, get_or-set_same, get_or-set_other}
use Rattle.std.proofs.lemmas.Option.{get_or_from_slice_get, none-some, same_Some, slice_get_read}
use Rattle.cell_graphs.specs.Graphs.{Graph, LeadsWithin}
use Rattle.cell_graphs.specs.Reached.{Reached}
use Rattle.cell_graphs.specs.Reached as reached
use Rattle.cell_graphs.specs.Rounds.{after_rounds, leads_to}
use Rattle.cell_graphs.specs.Laws.Closing.{reached-found}
use Rattle.cell_graphs.specs.Laws.Leading.{leads-from, tested-leads}
use Rattle.cell_ways.specs.Depths.{depth_of}
use Rattle.cell_ways.specs.Ways.{at_cell, known, nowhere}
use Rattle.cell_ways.specs.declared.sweeps.Sweep.{Sweep}
use Rattle.cell_ways.specs.Inner.Search.{AreDepths}
use Rattle.cell_ways.specs.Inner.Sweeps.{turned, AreSteps, AtMost, GoesOver, IsPassed, IsSettledAt, Lowers, Sweeps}
use Rattle.cell_ways.proofs.Giving.{known-some}
use Rattle.cell_ways.proofs.Least.{least-at, none-least}
use Rattle.cell_ways.proofs.Rounding.{round-leads, round-led}

-- ---- in at most so many steps

-- what was known of a cell, if nothing gets more
at-most-later : (old new : List ℕ) (n most : ℕ) → ((k : ℕ) → at_cell old n ≡ Some k → AtMost new n k) → AtMost old n most → AtMost new n most
at-most-later old new n most had was = let now = had was.0 was.1 in (now.0, now.1, omega (arith, now.2, was.2))

pub lowers-none : (s : Sweep) (depth : ℕ) (set : ℕ → Bool) → ((n : ℕ) → set n ≡ false) → Lowers s s depth set
lowers-none s depth set none = record {
  size = refl;
  from = λ n k is. inl is;
  had = λ n k is. (k, is, omega arith);
  gets = λ n is. absurd (false≢true (sym (none n) ∙ is));
  same = λ no_change. (no_change, refl);
}

pub lowers-then : (a b c : Sweep) (depth : ℕ) (P Q R : ℕ → Bool) → Lowers a b depth P → Lowers b c depth Q → ((n : ℕ) → R n ≡ (P n || Q n)) → Lowers a c depth R
lowers-then a b c depth P Q R one two both = record {
  size = two.size ∙ one.size;
  from = λ n k is. elim (two.from n k is) [
    | inl was ↦ elim (one.from n k was) [
      | inl first ↦ inl first
      | inr now ↦ inr (both n ∙ or_left (P n) (Q n) now.0, now.1)
    ]
    | inr now ↦ inr (both n ∙ or_right (P n) (Q n) now.0, now.1)
  ];
  had = λ n k is. at-most-later b.depths.items c.depths.items n k (two.had n) (one.had n k is);
  gets = λ n is. elim (or_cases (P n) (Q n) (sym (both n) ∙ is)) [
    | inl first ↦ at-most-later b.depths.items c.depths.items n depth (two.had n) (one.gets n first)
    | inr now ↦ two.gets n now
  ];
  same = λ no_change.
      let later = two.same no_change in
      let first = one.same later.0 in
      (first.0, later.1 ∙ first.1);
}

pub lowers-same : (a b : Sweep) (depth : ℕ) (P Q : ℕ → Bool) → Lowers a b depth P → ((n : ℕ) → Q n ≡ P n) → Lowers a b depth Q
lowers-same a b depth P Q one same = record {
  size = one.size;
  from = λ n k is. elim (one.from n k is) [
    | inl was ↦ inl was
    | inr now ↦ inr (same n ∙ now.0, now.1)
  ];
  had = one.had;
  gets = λ n is. one.gets n (sym (same n) ∙ is);
  same = one.same;
}

-- ---- one cell

-- the number that was read of a cell
pub read-at : (xs : List ℕ) (i r : ℕ) → i < length xs → r ≡ get_or xs i r → slice_index_or xs i nowhere ≡ r
read-at xs i r inside is = get_or_from_slice_get xs i r nowhere (slice_get_read xs (length xs) i r refl inside is)

-- a cell that is known to be reached in as few steps
pub lowers-had : (s : Sweep) (cell depth before : ℕ) → slice_index_or s.depths.items cell nowhere ≡ before → before ≤ depth → depth < nowhere → Lowers s s depth (nat_eq cell)
lowers-had s cell depth before at less small = record {
  size = refl;
  from = λ n k is. inl is;
  had = λ n k is. (k, is, omega arith);
  gets = λ n is.
      subst (λ m. AtMost s.depths.items m depth) (eqb-true cell n is)
      (before, ap known at ∙ known-some before (omega (arith, less, small)), less);
  same = λ no_change. (no_change, refl);
}

-- what stands for a number is that number
known-is : (number k : ℕ) → known number ≡ Some k → number ≡ k
known-is number k is = by (number == nowhere) refl is
  where
    by : (b : Bool) → (number == nowhere) ≡ b → (if b then None else Some number) ≡ Some k → number ≡ k
    by true same none = absurd (none-some k none)
    by false other some = same_Some number k some

-- one that isn't
pub lowers-one : (s s' : Sweep) (cell depth before : ℕ) → cell < length s.depths.items → slice_index_or s.depths.items cell nowhere ≡ before → depth < before → depth < nowhere
    → s'.depths.items ≡ set s.depths.items cell depth → s'.changed ≡ true → Lowers s s' depth (nat_eq cell)
lowers-one s s' cell depth before inside at less small new changed =
    let here : at_cell s'.depths.items cell ≡ Some depth =
    ap (λ ds. at_cell ds cell) new ∙ ap known (get_or-set_same s.depths.items cell depth nowhere inside) ∙ known-some depth small in
    let there : (n : ℕ) → (n ≡ cell → ⊥) → at_cell s'.depths.items n ≡ at_cell s.depths.items n =
    λ n other. ap (λ ds. at_cell ds n) new ∙ ap known (get_or-set_other s.depths.items cell n depth nowhere other) in record {
      size = ap length new ∙ length-set s.depths.items cell depth;
      from = λ n k is. elim (cases_eq n cell) [
        | inl same ↦ inr (ap (nat_eq cell) same ∙ eq-eqb cell cell refl, same_Some k depth (sym is ∙ ap (at_cell s'.depths.items) same ∙ here))
        | inr other ↦ inl (sym (there n other) ∙ is)
      ];
      had = λ n k is. elim (cases_eq n cell) [
        | inl same ↦
            let was : before ≡ k = known-is before k (ap known (sym at) ∙ ap (at_cell s.depths.items) (sym same) ∙ is) in
            (depth, ap (at_cell s'.depths.items) same ∙ here, omega (arith, less, was))
        | inr other ↦ (k, there n other ∙ is, omega arith)
      ];
      gets = λ n is. subst (λ m. AtMost s'.depths.items m depth) (eqb-true cell n is) (depth, here, omega arith);
      same = λ no_change. absurd (false≢true (sym no_change ∙ changed));
    }

-- ---- the cells to which one leads

module _ (graph : Graph) where
  -- numbers of steps stay ones of steps
  pub steps-more : (old new : Sweep) (cell depth : ℕ) (begun : ℕ → Bool) → Lowers old new (depth + 1) (leads_to graph cell) → at_cell old.depths.items cell ≡ Some depth
      → AreSteps graph begun old.depths.items → AreSteps graph begun new.depths.items
  steps-more old new cell depth begun lowers at steps =
      let more : depth + 1 ≡ suc depth = omega arith in record {
        roots = λ n is.
            let now = lowers.had n 0 (steps.roots n is) in
            let none : now.0 ≡ 0 = omega (arith, now.2) in
            now.1 ∙ ap Some none;
        found = λ n k is. elim (lowers.from n k is) [
          | inl was ↦ steps.found n k was
          | inr now ↦
              subst (λ j. after_rounds j graph begun n ≡ true) (sym (now.1 ∙ more))
              (round-leads graph begun depth cell n (steps.found cell depth at) now.0)
        ];
      }

  pub sweeps-none : (s : Sweep) (cell : ℕ) → at_cell s.depths.items cell ≡ None → Sweeps graph (λ n. n ≡ cell) s s
  sweeps-none s cell none = record {
    size = refl;
    steps = λ begun are. are;
    same = λ no_change. (no_change, refl);
    settled = λ no_change m same n k leads is. absurd (none-some k (sym none ∙ ap (at_cell s.depths.items) (sym same) ∙ is));
  }

  -- what would be reached in too many steps isn't settled
  pub sweeps-given-up : (s s' : Sweep) (cell : ℕ) → s'.depths.items ≡ s.depths.items → s'.changed ≡ true → Sweeps graph (λ n. n ≡ cell) s s'
  sweeps-given-up s s' cell kept changed = record {
    size = ap length kept;
    steps = λ begun are. subst (AreSteps graph begun) (sym kept) are;
    same = λ no_change. absurd (false≢true (sym no_change ∙ changed));
    settled = λ no_change. absurd (false≢true (sym no_change ∙ changed));
  }

  pub sweeps-one : (old new : Sweep) (cell depth : ℕ) → Lowers old new (depth + 1) (leads_to graph cell) → at_cell old.depths.items cell ≡ Some depth → Sweeps graph (λ n. n ≡ cell) old new
  sweeps-one old new cell depth lowers at = record {
    size = lowers.size;
    steps = λ begun. steps-more old new cell depth begun lowers at;
    same = lowers.same;
    settled = λ no_change m same n k leads is.
        let stays = lowers.same no_change in
        let here : depth ≡ k = same_Some depth k (sym at ∙ ap (λ ds. at_cell ds cell) (sym stays.1) ∙ ap (at_cell new.depths.items) (sym same) ∙ is) in
        let now = lowers.gets n (ap (λ j. leads_to graph j n) (sym same) ∙ leads) in
        (now.0, now.1, omega (arith, now.2, here));
  }

  -- ---- a sweep

  abbrev size : ℕ
  size = length graph

  -- the cells to which the first steps came
  abbrev Passed : Bool → ℕ → ℕ → Type 0
  Passed up step m = (m < size) × IsPassed up size step m

  none-passed : (up : Bool) (m : ℕ) → Passed up 0 m → ⊥
  none-passed true m passed = omega (arith, passed.1)
  none-passed false m passed = omega (arith, passed.0, passed.1)

  pub sweeps-begun : (s : Sweep) (up : Bool) → Sweeps graph (Passed up 0) s s
  sweeps-begun s up = record {
    size = refl;
    steps = λ begun are. are;
    same = λ no_change. (no_change, refl);
    settled = λ no_change m passed. absurd (none-passed up m passed);
  }

  passed-more : (up : Bool) (step m : ℕ) → step < size → Passed up (step + 1) m → Passed up step m ⊎ (m ≡ turned up size step)
  passed-more true step m inside passed = elim (cases_lt m step) [
    | inl before ↦ inl (passed.0, before)
    | inr here ↦ let same : m ≡ step = omega (arith, here, passed.1) in inr same
  ]
  passed-more false step m inside passed = elim (cases_lt (m + step) size) [
    | inl here ↦ let same : m ≡ size - 1 - step = omega (arith, here, passed.1, inside) in inr same
    | inr before ↦ inl (passed.0, before)
  ]

  all-passed : (up : Bool) (m : ℕ) → m < size → Passed up size m
  all-passed true m inside = (inside, inside)
  all-passed false m inside = let past : size ≤ m + size = omega arith in (inside, past)

  -- one cell more
  pub sweeps-next : (a b c : Sweep) (up : Bool) (step : ℕ) → step < size → Sweeps graph (Passed up step) a b → Sweeps graph (λ n. n ≡ turned up size step) b c
      → Sweeps graph (Passed up (step + 1)) a c
  sweeps-next a b c up step inside one two = record {
    size = two.size ∙ one.size;
    steps = λ begun are. two.steps begun (one.steps begun are);
    same = λ no_change.
        let later = two.same no_change in
        let first = one.same later.0 in
        (first.0, later.1 ∙ first.1);
    settled = λ no_change m passed. elim (passed-more up step m inside passed) [
      | inl before ↦
          let later = two.same no_change in
          subst (λ depths. IsSettledAt graph depths m) (sym later.1) (one.settled later.0 m before)
      | inr here ↦ two.settled no_change m here
    ];
  }

  -- all cells
  pub goes-over : (old start new : Sweep) (up : Bool) (step : ℕ) → start.depths.items ≡ old.depths.items → size ≤ step → step ≤ size → Sweeps graph (Passed up step) start new → GoesOver graph old new
  goes-over old start new up step kept past all sweeps =
      let end : size ≡ step = omega (arith, past, all) in record {
        size = sweeps.size ∙ ap length kept;
        steps = λ begun are. sweeps.steps begun (subst (AreSteps graph begun) (sym kept) are);
        settled = λ no_change m inside. sweeps.settled no_change m (subst (λ i. Passed up i m) end (all-passed up m inside));
      }

  module _ (begun : ℕ → Bool) where
    abbrev found_at : ℕ → ℕ → Bool
    found_at n rounds = after_rounds rounds graph begun n

    -- the roots are reached in no steps
    pub steps-begun : (a b : Sweep) → ((n : ℕ) → at_cell a.depths.items n ≡ None) → Lowers a b 0 begun → AreSteps graph begun b.depths.items
    steps-begun a b none lowers = record {
      roots = λ n is.
          let now = lowers.gets n is in
          let zero_steps : now.0 ≡ 0 = omega (arith, now.2) in
          now.1 ∙ ap Some zero_steps;
      found = λ n k is. elim (lowers.from n k is) [
        | inl was ↦ absurd (none-some k (sym (none n) ∙ was))
        | inr now ↦ subst (λ j. found_at n j ≡ true) (sym now.1) now.0
      ];
    }

    round-reached : (k n : ℕ) → found_at n k ≡ true → Reached graph (λ m. begun m ≡ true) n
    round-reached zero n is = reached.root n is
    round-reached (suc k) n is = by (round-reached k) (found_at n k) refl
      where
        by : ((m : ℕ) → found_at m k ≡ true → Reached graph (λ m. begun m ≡ true) m) → (b : Bool) → found_at n k ≡ b → Reached graph (λ m. begun m ≡ true) n
        by before true was = before n was
        by before false off = let led = round-led graph begun k n is off in reached.step led.0 n (before led.0 led.1) (tested-leads graph led.0 n led.2)

    module _ (within : LeadsWithin graph) (depths : List ℕ) (steps : AreSteps graph begun depths) (settled : (m : ℕ) → m < length graph → IsSettledAt graph depths m) where
      -- what some rounds find is reached in at most so many steps
      pub round-at-most : (k n : ℕ) → found_at n k ≡ true → AtMost depths n k
      round-at-most zero n is = (0, steps.roots n is, omega arith)
      round-at-most (suc k) n is = by (round-at-most k) (found_at n k) refl
        where
          by : ((m : ℕ) → found_at m k ≡ true → AtMost depths m k) → (b : Bool) → found_at n k ≡ b → AtMost depths n (suc k)
          by all true was = let before = all n was in (before.0, before.1, omega (arith, before.2))
          by all false off =
              let led = round-led graph begun k n is off in
              let before = all led.0 led.1 in
              let now = settled led.0 (leads-from graph led.0 n (tested-leads graph led.0 n led.2)) n before.0 led.2 before.1 in
              (now.0, now.1, omega (arith, now.2, before.2))

      never-less : (k n j : ℕ) → at_cell depths n ≡ Some k → j < k → found_at n j ≡ false
      never-less k n j is less = by (found_at n j) refl
        where
          by : (b : Bool) → found_at n j ≡ b → b ≡ false
          by true was =
              let now = round-at-most j n was in
              let same : now.0 ≡ k = same_Some now.0 k (sym now.1 ∙ is) in
              absurd (omega (arith, now.2, same, less))
          by false off = refl

      never-found : (n j : ℕ) → at_cell depths n ≡ None → found_at n j ≡ false
      never-found n j none = by (found_at n j) refl
        where
          by : (b : Bool) → found_at n j ≡ b → b ≡ false
          by true was = let now = round-at-most j n was in absurd (none-some now.0 (sym none ∙ now.1))
          by false off = refl

      few-steps : (k n : ℕ) → at_cell depths n ≡ Some k → k < suc (length graph)
      few-steps k n is =
          let all = round-at-most (length graph) n (reached-found graph begun within n (round-reached k n (steps.found n k is))) in
          let same : all.0 ≡ k = same_Some all.0 k (sym all.1 ∙ is) in
          omega (arith, all.2, same)

      settled-depth : (n : ℕ) (o : Option ℕ) → at_cell depths n ≡ o → o ≡ depth_of graph begun n
      settled-depth n (Some k) is = sym (least-at (found_at n) (suc (length graph)) k (few-steps k n is) (steps.found n k is) (λ j less. never-less k n j is less))
      settled-depth n None none = sym (none-least (found_at n) (suc (length graph)) (λ j inside. never-found n j none))

      -- where all is settled, the numbers are the depths
      pub settled-depths : length depths ≡ length graph → AreDepths graph begun depths
      settled-depths size = record {
        size = size;
        each = λ n inside. settled-depth n (at_cell depths n) refl;
      }
