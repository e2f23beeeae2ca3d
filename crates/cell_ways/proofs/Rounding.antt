-- The rounds that find reached cells, one after another.
use Rattle.std.proofs.Common.{◌≡◌, ℕ, zero, suc, ◌<◌, Bool, true, false, ◌&&◌, length, refl, sym, ◌∙◌, subst, inl, inr, arith}
use Rattle.std.proofs.lemmas.Bool.{and_parts, and_from, cases_lt, false≢true, or_cases, or_left, or_right}
use Rattle.cell_graphs.specs.Graphs.{Graph}
use Rattle.cell_graphs.specs.Rounds.{after_rounds, is_led, leads_to}
use Rattle.cell_graphs.specs.Laws.Leading.{leads-from, tested-leads}

module _ (graph : Graph) where
  led-true : (set : ℕ → Bool) (count m n : ℕ) → m < count → set m ≡ true → leads_to graph m n ≡ true → is_led graph set count n ≡ true
  led-true set zero m n lt is leads = absurd (omega (arith, lt))
  led-true set (suc c) m n lt is leads =
      elim (cases_lt m c) [
        | inl less ↦ or_left (is_led graph set c n) (set c && leads_to graph c n) (led-true set c m n less is leads)
        | inr past ↦
            let same : m ≡ c = omega (arith, lt, past) in
            or_right (is_led graph set c n) (set c && leads_to graph c n)
            (subst (λ j. (set j && leads_to graph j n) ≡ true) same (and_from (set m) (leads_to graph m n) is leads))
      ]

  true-led : (set : ℕ → Bool) (count n : ℕ) → is_led graph set count n ≡ true → (m : ℕ) × (set m ≡ true) × (leads_to graph m n ≡ true)
  true-led set zero n is = absurd (false≢true is)
  true-led set (suc c) n is =
      elim (or_cases (is_led graph set c n) (set c && leads_to graph c n) is) [
        | inl before ↦ true-led set c n before
        | inr here ↦ let both = and_parts (set c) (leads_to graph c n) here in (c, both.0, both.1)
      ]

  module _ (begun : ℕ → Bool) where
    abbrev rounds : ℕ → ℕ → Bool
    rounds k n = after_rounds k graph begun n

    -- to what a cell leads that the rounds have found, one more finds
    pub round-leads : (k m n : ℕ) → rounds k m ≡ true → leads_to graph m n ≡ true → rounds (suc k) n ≡ true
    round-leads k m n is leads =
        or_right (rounds k n) (is_led graph (rounds k) (length graph) n)
        (led-true (rounds k) (length graph) m n (leads-from graph m n (tested-leads graph m n leads)) is leads)

    -- what one more round finds one leads to that was found
    pub round-led : (k n : ℕ) → rounds (suc k) n ≡ true → rounds k n ≡ false → (m : ℕ) × (rounds k m ≡ true) × (leads_to graph m n ≡ true)
    round-led k n is off =
        elim (or_cases (rounds k n) (is_led graph (rounds k) (length graph) n) is) [
          | inl was ↦ absurd (false≢true (sym off ∙ was))
          | inr led ↦ true-led (rounds k) (length graph) n led
        ]

    -- no cell that leads to one that isn't found so early was found a round before
    pub round-late : (k m n : ℕ) → leads_to graph m n ≡ true → ((j : ℕ) → j < suc k → rounds j n ≡ false) → (j : ℕ) → j < k → rounds j m ≡ false
    round-late k m n leads late j lt = by (rounds j m) refl
      where
        by : (b : Bool) → rounds j m ≡ b → b ≡ false
        by true is = absurd (false≢true (sym (late (suc j) (omega (arith, lt))) ∙ round-leads j m n is leads))
        by false is = refl
