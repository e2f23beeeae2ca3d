-- Numbers in order: only one list that rises has these elements.
use Rattle.std.proofs.Common.{◌≡◌, ℕ, zero, suc, ◌<◌, ◌==◌, ◌⊎◌, nat_lt, Bool, true, false, if◌then◌else◌, List, [], ◌∷◌, refl, sym, ap, subst, inl, inr, arith, Contains, AllPairs}
use Rattle.std.specs.List.Sorted.{IsStrictlyIncreasing}
use Rattle.std.proofs.lemmas.Bool.{cases_order, eqb-true, ltb-false, ltb-true, eq-eqb}
use Rattle.std.proofs.lemmas.List.Kept.{AllPairs-from_increasing}
use Rattle.heap_reach.specs.Unreached.{ascending, inserted}
use Rattle.heap_reach.proofs.Missed.{no-Contains}

-- ---- what a list has

head-has : (x : ℕ) (xs : List ℕ) → Contains (x ∷ xs) x
head-has x xs = (0, omega arith, refl)

tail-has : (x : ℕ) (xs : List ℕ) (a : ℕ) → Contains xs a → Contains (x ∷ xs) a
tail-has x xs a (k, lt, is) = (suc k, omega (arith, lt), is)

has-parts : (x : ℕ) (xs : List ℕ) (a : ℕ) → Contains (x ∷ xs) a → (x ≡ a) ⊎ Contains xs a
has-parts x xs a (zero, lt, is) = inl is
has-parts x xs a (suc k, lt, is) = inr (k, omega (arith, lt), is)

-- ---- lists that rise

-- the number is below each of the list
abbrev IsBelow : ℕ → List ℕ → Type 0
IsBelow x xs = (a : ℕ) → Contains xs a → x < a

abbrev Rises : List ℕ → Type 0
Rises [] = Unit {0}
Rises (x ∷ xs) = IsBelow x xs × Rises xs

rises-pairs : (xs : List ℕ) → AllPairs (λ x y. x < y) xs → Rises xs
rises-pairs [] pairs = tt
rises-pairs (x ∷ xs) pairs = (
  λ a (k, lt, is). subst (λ b. x < b) is (pairs 0 (suc k) a (omega arith) (omega (arith, lt))),
  rises-pairs xs (λ i j d less within. pairs (suc i) (suc j) d (omega (arith, less)) (omega (arith, within))),
)

-- the first of two lists with the same elements
same-head : (x y : ℕ) (xs ys : List ℕ) → IsBelow x xs → IsBelow y ys → Contains (y ∷ ys) x → Contains (x ∷ xs) y → x ≡ y
same-head x y xs ys low high there back =
    elim (has-parts y ys x there) [
      | inl first ↦ sym first
      | inr later ↦ elim (has-parts x xs y back) [ inl first ↦ first | inr other ↦ absurd (omega (arith, high x later, low y other)) ]
    ]

same-rising : (xs ys : List ℕ) → Rises xs → Rises ys → ((a : ℕ) → Contains xs a → Contains ys a) → ((a : ℕ) → Contains ys a → Contains xs a) → xs ≡ ys
same-rising [] [] up other there back = refl
same-rising [] (y ∷ ys) up other there back = absurd (no-Contains y (back y (head-has y ys)))
same-rising (x ∷ xs) [] up other there back = absurd (no-Contains x (there x (head-has x xs)))
same-rising (x ∷ xs) (y ∷ ys) up other there back =
    let same : x ≡ y = same-head x y xs ys up.0 other.0 (there x (head-has x xs)) (back y (head-has y ys)) in
    subst (λ z. x ∷ xs ≡ z ∷ ys) same (ap (λ zs. x ∷ zs) (same-rising xs ys up.1 other.1
    (λ a has. elim (has-parts y ys a (there a (tail-has x xs a has))) [ inl first ↦ absurd (omega (arith, up.0 a has, first, same)) | inr later ↦ later ])
    (λ a has. elim (has-parts x xs a (back a (tail-has y ys a has))) [ inl first ↦ absurd (omega (arith, other.0 a has, first, same)) | inr later ↦ later ])))

-- ---- a number is placed among others

-- what becomes of the head and what is behind it: b where it is the number, and c where the number is below it
abbrev chosen : Bool → Bool → ℕ → ℕ → List ℕ → List ℕ → List ℕ
chosen b c x y ys rest = if b then y ∷ ys else (if c then x ∷ y ∷ ys else y ∷ rest)

chosen-has : (b c : Bool) (x y : ℕ) (ys rest : List ℕ) (a : ℕ) → (Contains rest a → (x ≡ a) ⊎ Contains ys a) → Contains (chosen b c x y ys rest) a → (x ≡ a) ⊎ Contains (y ∷ ys) a
chosen-has true c x y ys rest a from has = inr has
chosen-has false true x y ys rest a from has = has-parts x (y ∷ ys) a has
chosen-has false false x y ys rest a from has =
    elim (has-parts y rest a has) [
      | inl first ↦ inr (0, omega arith, first)
      | inr later ↦ elim (from later) [ inl same ↦ inl same | inr old ↦ inr (tail-has y ys a old) ]
    ]

chosen-kept : (b c : Bool) (x y : ℕ) (ys rest : List ℕ) (a : ℕ) → (Contains ys a → Contains rest a) → Contains (y ∷ ys) a → Contains (chosen b c x y ys rest) a
chosen-kept true c x y ys rest a keeps has = has
chosen-kept false true x y ys rest a keeps has = tail-has x (y ∷ ys) a has
chosen-kept false false x y ys rest a keeps has =
    elim (has-parts y ys a has) [ inl first ↦ (0, omega arith, first) | inr later ↦ tail-has y rest a (keeps later) ]

chosen-new : (b c : Bool) (x y : ℕ) (ys rest : List ℕ) → (b ≡ true → x ≡ y) → Contains rest x → Contains (chosen b c x y ys rest) x
chosen-new true c x y ys rest same new = (0, omega arith, sym (same refl))
chosen-new false true x y ys rest same new = head-has x (y ∷ ys)
chosen-new false false x y ys rest same new = tail-has y rest x new

chosen-rises : (b c : Bool) (x y : ℕ) (ys rest : List ℕ) → (c ≡ true → x < y) → (b ≡ false → c ≡ false → y < x) → IsBelow y ys → Rises ys → Rises rest
    → ((a : ℕ) → Contains rest a → (x ≡ a) ⊎ Contains ys a) → Rises (chosen b c x y ys rest)
chosen-rises true c x y ys rest less more low up rising from = (low, up)
chosen-rises false true x y ys rest less more low up rising from = (
  λ a has. elim (has-parts y ys a has) [ inl first ↦ subst (λ z. x < z) first (less refl) | inr later ↦ omega (arith, less refl, low a later) ],
  (low, up),
)
chosen-rises false false x y ys rest less more low up rising from = (
  λ a has. elim (from a has) [ inl first ↦ subst (λ z. y < z) first (more refl refl) | inr later ↦ low a later ],
  rising,
)

above : (x y : ℕ) → (x == y) ≡ false → nat_lt x y ≡ false → y < x
above x y other past =
    elim (cases_order x y) [
      | inl same ↦ absurd (let no : ⊥ = cc (other, eq-eqb x y same) in no)
      | inr (inl less) ↦ absurd (omega (arith, less, ltb-false x y past))
      | inr (inr more) ↦ more
    ]

placed-has : (x : ℕ) (ys : List ℕ) (a : ℕ) → Contains (inserted x ys) a → (x ≡ a) ⊎ Contains ys a
placed-has x [] a has = has-parts x [] a has
placed-has x (y ∷ ys) a has = chosen-has (x == y) (nat_lt x y) x y ys (inserted x ys) a (placed-has x ys a) has

placed-kept : (x : ℕ) (ys : List ℕ) (a : ℕ) → Contains ys a → Contains (inserted x ys) a
placed-kept x [] a has = absurd (no-Contains a has)
placed-kept x (y ∷ ys) a has = chosen-kept (x == y) (nat_lt x y) x y ys (inserted x ys) a (placed-kept x ys a) has

placed-new : (x : ℕ) (ys : List ℕ) → Contains (inserted x ys) x
placed-new x [] = head-has x []
placed-new x (y ∷ ys) = chosen-new (x == y) (nat_lt x y) x y ys (inserted x ys) (eqb-true x y) (placed-new x ys)

placed-rises : (x : ℕ) (ys : List ℕ) → Rises ys → Rises (inserted x ys)
placed-rises x [] up = (λ a has. absurd (no-Contains a has), tt)
placed-rises x (y ∷ ys) up =
    chosen-rises (x == y) (nat_lt x y) x y ys (inserted x ys) (ltb-true x y) (above x y) up.0 up.1 (placed-rises x ys up.1) (placed-has x ys)

-- ---- a list in order

ascending-rises : (xs : List ℕ) → Rises (ascending xs)
ascending-rises [] = tt
ascending-rises (x ∷ xs) = placed-rises x (ascending xs) (ascending-rises xs)

ascending-has : (xs : List ℕ) (a : ℕ) → Contains (ascending xs) a → Contains xs a
ascending-has [] a has = absurd (no-Contains a has)
ascending-has (x ∷ xs) a has =
    elim (placed-has x (ascending xs) a has) [ inl same ↦ (0, omega arith, same) | inr later ↦ tail-has x xs a (ascending-has xs a later) ]

ascending-kept : (xs : List ℕ) (a : ℕ) → Contains xs a → Contains (ascending xs) a
ascending-kept [] a has = absurd (no-Contains a has)
ascending-kept (x ∷ xs) a has =
    elim (has-parts x xs a has) [
      | inl same ↦ subst (λ z. Contains (inserted x (ascending xs)) z) same (placed-new x (ascending xs))
      | inr later ↦ placed-kept x (ascending xs) a (ascending-kept xs a later)
    ]

-- a list that rises and has these elements is theirs in order
pub ascending-is : (found xs : List ℕ) → IsStrictlyIncreasing found → ((a : ℕ) → Contains found a → Contains xs a) → ((a : ℕ) → Contains xs a → Contains found a) → found ≡ ascending xs
ascending-is found xs up there back =
    same-rising found (ascending xs) (rises-pairs found (AllPairs-from_increasing found up)) (ascending-rises xs)
    (λ a has. ascending-kept xs a (there a has)) (λ a has. back a (ascending-has xs a has))
