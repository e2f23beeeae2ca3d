-- The addresses of the cells that aren't in a set.
use Rattle.std.proofs.Common.{◌≡◌, ℕ, zero, suc, Bool, true, false, ◌↔◌, List, [], Option, Some, None, refl, sym, ap, subst, inl, inr, arith, Contains}
use Rattle.std.specs.List.Sorted.{IsPermutation}
use Rattle.std.proofs.lemmas.Bool.{cases_lt}
use Rattle.std.proofs.lemmas.List.Elements.{Contains-append_left, Contains-append_right, Contains-append_cases}
use Rattle.std.proofs.lemmas.List.Sorted.{Contains-permutation, IsPermutation-sym}
use Rattle.heap_cells.specs.Cells.{Cell}
use Rattle.heap_cells.specs.HeapMap.{address_at}
use Rattle.heap_reach.specs.Unreached.{missed, missed_below, IsMissed}

pub no-Contains : (a : ℕ) → Contains [] a → ⊥
no-Contains a (k, lt, is) = omega (arith, lt)

missed-parts : (b : Bool) (o : Option ℕ) (a : ℕ) → Contains (missed b o) a → (b ≡ false) × (o ≡ Some a)
missed-parts true o a has = absurd (no-Contains a has)
missed-parts false None a has = absurd (no-Contains a has)
missed-parts false (Some x) a (zero, lt, is) = (refl, ap Some is)
missed-parts false (Some x) a (suc k, lt, is) = absurd (omega (arith, lt))

missed-has : (b : Bool) (o : Option ℕ) (a : ℕ) → b ≡ false → o ≡ Some a → Contains (missed b o) a
missed-has b o a off here =
    subst (λ v. Contains (missed v o) a) (sym off) (subst (λ v. Contains (missed false v) a) (sym here) (0, omega arith, refl))

pub missed-there : (cells : List Cell) (set : ℕ → Bool) (n a : ℕ) → Contains (missed_below cells set n) a → IsMissed cells set n a
missed-there cells set zero a has = absurd (no-Contains a has)
missed-there cells set (suc n) a has =
    elim (Contains-append_cases (missed_below cells set n) (missed (set n) (address_at cells n)) a has) [
      | inl before ↦
          let m = missed-there cells set n a before in
          record { number = m.number; own = omega (arith, m.own); off = m.off; here = m.here }
      | inr last ↦
          let parts = missed-parts (set n) (address_at cells n) a last in
          record { number = n; own = omega arith; off = parts.0; here = parts.1 }
    ]

missed-back : (cells : List Cell) (set : ℕ → Bool) (n a : ℕ) → IsMissed cells set n a → Contains (missed_below cells set n) a
missed-back cells set zero a m = absurd (omega (arith, m.own))
missed-back cells set (suc n) a m =
    elim (cases_lt m.number n) [
      | inl lt ↦ Contains-append_left (missed_below cells set n) (missed (set n) (address_at cells n)) a
          (missed-back cells set n a (record { number = m.number; own = lt; off = m.off; here = m.here }))
      | inr past ↦
          let same : m.number ≡ n = omega (arith, past, m.own) in
          Contains-append_right (missed_below cells set n) (missed (set n) (address_at cells n)) a
          (missed-has (set n) (address_at cells n) a
          (subst (λ k. set k ≡ false) same m.off) (subst (λ k. address_at cells k ≡ Some a) same m.here))
    ]

pub missed-sorted : (cells : List Cell) (set : ℕ → Bool) (n : ℕ) (found sorted : List ℕ) → found ≡ missed_below cells set n → IsPermutation found sorted
    → (a : ℕ) → Contains sorted a ↔ IsMissed cells set n a
missed-sorted cells set n found sorted is moved a = (
  λ has. missed-there cells set n a (subst (λ xs. Contains xs a) is (Contains-permutation sorted found a (IsPermutation-sym found sorted moved) has)),
  λ m. Contains-permutation found sorted a moved (subst (λ xs. Contains xs a) (sym is) (missed-back cells set n a m)),
)
