-- The least number that passes a test.
use Rattle.std.proofs.Common.{◌≡◌, ℕ, zero, suc, ◌<◌, Bool, true, false, Option, None, Some, refl, sym, ◌∙◌, ap, ap₂, subst, inl, inr, arith}
use Rattle.std.specs.Prelude.{if◌then◌else◌}
use Rattle.std.specs.Option.{option_or}
use Rattle.std.proofs.lemmas.Bool.{cases_lt, false≢true}
use Rattle.std.proofs.lemmas.Option.{none-some, same_Some}
use Rattle.cell_ways.specs.Depths.{least_below}

-- what is found among one number more
abbrev next : Option ℕ → Bool → ℕ → Option ℕ
next before b n = option_or before (if b then Some n else None)

-- the number found passes, is below the bound, and none below it passes
pub record IsLeast (test : ℕ → Bool) (n k : ℕ) : Type 0 where
  pub passes : test k ≡ true
  pub below : k < n
  pub first : (j : ℕ) → j < k → test j ≡ false

not-below : (test : ℕ → Bool) (n : ℕ) → ((j : ℕ) → j < n → test j ≡ false) → test n ≡ false → (j : ℕ) → j < suc n → test j ≡ false
not-below test n before here j lt =
    elim (cases_lt j n) [
      | inl less ↦ before j less
      | inr past ↦ let same : n ≡ j = omega (arith, lt, past) in subst (λ i. test i ≡ false) same here
    ]

pub least-none : (test : ℕ → Bool) (n : ℕ) → least_below test n ≡ None → (j : ℕ) → j < n → test j ≡ false
least-none test zero none = λ j lt. absurd (omega (arith, lt))
least-none test (suc n) none = by (least_below test n) (test n) (least-none test n) refl refl none
  where
    by : (o : Option ℕ) (b : Bool) → (least_below test n ≡ None → (j : ℕ) → j < n → test j ≡ false) → least_below test n ≡ o → test n ≡ b → next o b n ≡ None
        → (j : ℕ) → j < suc n → test j ≡ false
    by (Some k) b before is here same = absurd (none-some k (sym same))
    by None true before is here same = absurd (none-some n (sym same))
    by None false before is here same = not-below test n (before is) here

pub least-found : (test : ℕ → Bool) (n k : ℕ) → least_below test n ≡ Some k → IsLeast test n k
least-found test zero k is = absurd (none-some k is)
least-found test (suc n) k is = by (least_below test n) (test n) (least-found test n k) refl refl is
  where
    by : (o : Option ℕ) (b : Bool) → (least_below test n ≡ Some k → IsLeast test n k) → least_below test n ≡ o → test n ≡ b → next o b n ≡ Some k → IsLeast test (suc n) k
    by (Some m) b before was here same =
        let l = before (was ∙ same) in
        record { passes = l.passes; below = omega (arith, l.below); first = l.first }
    by None true before none here same =
        let at : n ≡ k = same_Some n k same in
        record {
          passes = subst (λ i. test i ≡ true) at here;
          below = omega (arith, at);
          first = λ j lt. least-none test n none j (omega (arith, lt, at));
        }
    by None false before none here same = absurd (none-some k same)

pub none-least : (test : ℕ → Bool) (n : ℕ) → ((j : ℕ) → j < n → test j ≡ false) → least_below test n ≡ None
none-least test zero none = refl
none-least test (suc n) none =
    ap₂ (λ o b. next o b n) (none-least test n (λ j lt. none j (omega (arith, lt)))) (none n (omega arith))

pub least-at : (test : ℕ → Bool) (n k : ℕ) → k < n → test k ≡ true → ((j : ℕ) → j < k → test j ≡ false) → least_below test n ≡ Some k
least-at test zero k lt passes first = absurd (omega (arith, lt))
least-at test (suc n) k lt passes first =
    elim (cases_lt k n) [
      | inl less ↦ ap (λ o. next o (test n) n) (least-at test n k less passes first)
      | inr past ↦
          let same : k ≡ n = omega (arith, lt, past) in
          subst (λ i. next (least_below test i) (test i) i ≡ Some k) same
          (ap₂ (λ o b. next o b k) (none-least test k first) passes)
    ]

-- where a number passes, one is found
pub least-any : (test : ℕ → Bool) (n j : ℕ) → j < n → test j ≡ true → (k : ℕ) × (least_below test n ≡ Some k)
least-any test n j lt passes = by (least_below test n) refl
  where
    by : (o : Option ℕ) → least_below test n ≡ o → (k : ℕ) × (least_below test n ≡ Some k)
    by (Some k) is = (k, is)
    by None is = absurd (false≢true (sym (least-none test n is j lt) ∙ passes))

-- tests that agree below the bound
pub least-same : (test other : ℕ → Bool) (n : ℕ) → ((j : ℕ) → j < n → test j ≡ other j) → least_below test n ≡ least_below other n
least-same test other zero same = refl
least-same test other (suc n) same = ap₂ (λ o b. next o b n) (least-same test other n (λ j lt. same j (omega (arith, lt)))) (same n (omega arith))
