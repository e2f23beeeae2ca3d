-- Each address stands once.
use Rattle.std.proofs.Common.{◌≡◌, ℕ, zero, suc, Bool, true, false, nat_eq, List, [], ◌∷◌, ◌++◌, Option, Some, None, refl, sym, ◌∙◌, ap, subst, inl, inr, arith, Contains}
use Rattle.std.specs.List.{IsDistinct, AllByRecursion}
use Rattle.std.specs.List.Sorted.{IsNonDecreasing, IsPermutation, IsStrictlyIncreasing}
use Rattle.std.proofs.lemmas.Bool.{ne_eqb, eq-eqb, false≢true, cases_eq}
use Rattle.std.proofs.lemmas.Option.{same_Some, none-some}
use Rattle.std.proofs.lemmas.List.Elements.{Contains-append_right}
use Rattle.std.proofs.lemmas.Map.Keys.{IsDistinct-IsPermutation, IsStrictlyIncreasing-from_distinct}
use Rattle.heap_cells.specs.Cells.{Cell, addresses}
use Rattle.heap_cells.specs.HeapMap.{address_at}
use Rattle.heap_reach.specs.Unreached.{missed, missed_below}
use Rattle.heap_reach.proofs.Missed.{missed-there}

all-at : (P : ℕ → Type 0) (cells : List Cell) (k a : ℕ) → AllByRecursion P (addresses cells) → address_at cells k ≡ Some a → P a
all-at P [] zero a all is = absurd (none-some a is)
all-at P [] (suc k) a all is = absurd (none-some a is)
all-at P (c ∷ cs) zero a all is = subst P (same_Some c.address a is) all.0
all-at P (c ∷ cs) (suc k) a all is = all-at P cs k a all.1 is

apart : (c : Cell) (cs : List Cell) (k a : ℕ) → AllByRecursion (λ y. nat_eq c.address y ≡ false) (addresses cs) → c.address ≡ a → address_at cs k ≡ Some a → ⊥
apart c cs k a all first is = false≢true (sym (all-at (λ y. nat_eq c.address y ≡ false) cs k a all is) ∙ eq-eqb c.address a first)

one-place : (cells : List Cell) (j k a : ℕ) → IsDistinct nat_eq (addresses cells) → address_at cells j ≡ Some a → address_at cells k ≡ Some a → j ≡ k
unfolding IsDistinct
one-place [] zero k a d is at = absurd (none-some a is)
one-place [] (suc j) k a d is at = absurd (none-some a is)
one-place (c ∷ cs) zero zero a d is at = refl
one-place (c ∷ cs) zero (suc k) a d is at = absurd (apart c cs k a d.0 (same_Some c.address a is) at)
one-place (c ∷ cs) (suc j) zero a d is at = absurd (apart c cs j a d.0 (same_Some c.address a at) is)
one-place (c ∷ cs) (suc j) (suc k) a d is at = ap suc (one-place cs j k a d.1 is at)

all-push : (P : ℕ → Type 0) (xs : List ℕ) (x : ℕ) → AllByRecursion P xs → P x → AllByRecursion P (xs ++ x ∷ [])
all-push P [] x all p = (p, tt)
all-push P (y ∷ ys) x all p = (all.0, all-push P ys x all.1 p)

distinct-push : (xs : List ℕ) (x : ℕ) → IsDistinct nat_eq xs → (Contains xs x → ⊥) → IsDistinct nat_eq (xs ++ x ∷ [])
unfolding IsDistinct
distinct-push [] x d other = (tt, tt)
distinct-push (y ∷ ys) x d other = (
  all-push (λ z. nat_eq y z ≡ false) ys x d.0 (ne_eqb y x (λ e. other (0, omega arith, e))),
  distinct-push ys x d.1 (λ has. other (Contains-append_right (y ∷ []) ys x has)),
)

append-none : (xs : List ℕ) → xs ++ [] ≡ xs
append-none [] = refl
append-none (x ∷ xs) = ap (λ ys. x ∷ ys) (append-none xs)

distinct-missed : (xs : List ℕ) (b : Bool) (o : Option ℕ) → IsDistinct nat_eq xs → ((a : ℕ) → o ≡ Some a → Contains xs a → ⊥) → IsDistinct nat_eq (xs ++ missed b o)
distinct-missed xs true o d other = subst (IsDistinct nat_eq) (sym (append-none xs)) d
distinct-missed xs false None d other = subst (IsDistinct nat_eq) (sym (append-none xs)) d
distinct-missed xs false (Some a) d other = distinct-push xs a d (other a refl)

distinct-below : (cells : List Cell) (set : ℕ → Bool) (n : ℕ) → IsDistinct nat_eq (addresses cells) → IsDistinct nat_eq (missed_below cells set n)
unfolding IsDistinct
distinct-below cells set zero d = tt
distinct-below cells set (suc n) d =
    distinct-missed (missed_below cells set n) (set n) (address_at cells n) (distinct-below cells set n d)
    (λ a here has. let m = missed-there cells set n a has in
    let same : m.number ≡ n = one-place cells m.number n a d m.here here in
    omega (arith, m.own, same))

flips : (x y : ℕ) → nat_eq x y ≡ nat_eq y x
flips x y =
    elim (cases_eq x y) [
      | inl same ↦ eq-eqb x y same ∙ sym (eq-eqb y x (sym same))
      | inr other ↦ ne_eqb x y other ∙ sym (ne_eqb y x (λ e. other (sym e)))
    ]

-- the sorted addresses of the cells that aren't in a set rise
pub rising-sorted : (cells : List Cell) (set : ℕ → Bool) (n : ℕ) (found sorted : List ℕ) → found ≡ missed_below cells set n → IsPermutation found sorted
    → IsNonDecreasing sorted → IsDistinct nat_eq (addresses cells) → IsStrictlyIncreasing sorted
rising-sorted cells set n found sorted is moved up d =
    IsStrictlyIncreasing-from_distinct sorted up
    (IsDistinct-IsPermutation nat_eq flips found sorted moved (subst (IsDistinct nat_eq) (sym is) (distinct-below cells set n d)))
