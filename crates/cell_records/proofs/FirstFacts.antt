-- Which numbers come before all others with their address.
use Rattle.std.proofs.Common.{◌≡◌, ℕ, zero, suc, ◌+◌, ◌-◌, ◌<◌, ◌≤◌, ◌==◌, ◌||◌, ◌⊎◌, ⊎_elim, inl, inr, Bool, true, false, not, Some, List, length, get_or, set, take, refl, sym, ◌∙◌, ap, subst, arith, below_more, ◌^◌, ap₂}
use Rattle.std.proofs.lemmas.Bool.{true≢false, cases_eq, cases_lt, false_from_ne_true, eq-eqb, eqb-true}
use Rattle.std.proofs.lemmas.Grind.{get_or-set_at}
use Rattle.std.proofs.lemmas.List.{get_or_default, get_or-set_other, get_or-set_same, length-set, length-map, get_or-take, length-take}
use Rattle.std.proofs.lemmas.List.Folds.{list_any_none, list_any_at}
use Rattle.cell_records.specs.Firsts.{AreFirsts, AreApart}
use Rattle.cell_records.specs.Order.{address_in, number_with, rank, IsOrder, is_first, AreAllFirst, AreRanked}
use Rattle.cell_records.specs.Inner.Places.{begins_at, StandsAt}
use Rattle.cell_records.proofs.OrderFacts.{number-first, ranked, lesser, numbers_of, order-of, address-at}

-- no number before this one has its address
abbrev pub IsFirst : List ℕ → ℕ → Type 0
IsFirst xs n = (m : ℕ) → m < n → address_in xs m ≡ address_in xs n → ⊥

-- the number at a place is the first with its address in the order
abbrev pub begins : List ℕ → List ℕ → ℕ → Bool
begins xs order k = (k == 0) || not (address_in xs (get_or order (k - 1) 0) == address_in xs (get_or order k 0))

-- of the first numbers of the order those that begin an address are marked, and what is marked is first
pub record AreMarked (xs : List ℕ) (order : List ℕ) (firsts : List Bool) (upto : ℕ) : Type 0 where
  pub count : length firsts ≡ length xs
  pub begun : (k : ℕ) → k < upto → begins xs order k ≡ true → get_or firsts (get_or order k 0) false ≡ true
  pub sound : (n : ℕ) → get_or firsts n false ≡ true → IsFirst xs n

-- ---- the test

number-at : (xs : List ℕ) (order : List ℕ) (k : ℕ) → IsOrder xs order → k < length order → get_or order k 0 < length xs
number-at xs order k is inside = is.within k 0 inside

not-zero : (k : ℕ) → 0 < k → (k == 0) ≡ false
not-zero k more = false_from_ne_true (k == 0) (λ e. let z = eqb-true k 0 e in absurd (omega (arith, z, more)))

begins-no : (xs : List ℕ) (order : List ℕ) (k : ℕ) → 0 < k → address_in xs (get_or order (k - 1) 0) ≡ address_in xs (get_or order k 0) → begins xs order k ≡ false
begins-no xs order k more same =
    rw (not-zero k more, eq-eqb (address_in xs (get_or order (k - 1) 0)) (address_in xs (get_or order k 0)) same) refl

not-true : (b : Bool) → not b ≡ false → b ≡ true
not-true true e = refl
not-true false e = sym e

begins-same : (xs : List ℕ) (order : List ℕ) (k : ℕ) → 0 < k → begins xs order k ≡ false → address_in xs (get_or order (k - 1) 0) ≡ address_in xs (get_or order k 0)
begins-same xs order k more fails =
    let other : not (address_in xs (get_or order (k - 1) 0) == address_in xs (get_or order k 0)) ≡ false =
    ap (λ b. b || not (address_in xs (get_or order (k - 1) 0) == address_in xs (get_or order k 0))) (sym (not-zero k more)) ∙ fails in
    eqb-true _ _ (not-true _ other)

-- ---- what begins an address is first

pub begins-first : (xs : List ℕ) (order : List ℕ) (k : ℕ) → length xs < 2 ^ 32 → IsOrder xs order → k < length order → begins xs order k ≡ true
    → IsFirst xs (get_or order k 0)
begins-first xs order k few is inside passes m less same =
    let here = number-at xs order k is inside in
    let there = is.complete m (omega (arith, less, here)) in
    elim (cases_lt there.0 k) [
      | inr later ↦
          let ranks = ranked xs order k there.0 (get_or order k 0) m is later there.1 (get_or_default order k (get_or order k 0) 0 inside) there.2 in
          omega (arith, ranks, same, less)
      | inl earlier ↦
          let one = number-at xs order (k - 1) is (omega arith) in
          let up = ranked xs order there.0 (k - 1) m (get_or order (k - 1) 0) is (omega arith) (omega arith) there.2
          (get_or_default order (k - 1) (get_or order (k - 1) 0) 0 (omega arith)) in
          let down = is.sorted (k - 1) k 0 (omega arith) inside in
          let a = lesser (address_in xs m) (address_in xs (get_or order (k - 1) 0)) m (get_or order (k - 1) 0) (omega (arith, less, here, few)) (omega (arith, one, few)) up in
          let b = lesser (address_in xs (get_or order (k - 1) 0)) (address_in xs (get_or order k 0)) (get_or order (k - 1) 0) (get_or order k 0) (omega (arith, one, few)) (omega (arith, here, few)) down in
          true≢false (sym passes ∙ begins-no xs order k (omega arith) (omega (arith, a, b, same)))
    ]

-- ---- what is first begins an address

-- a place at which a number begins its address
pub record IsBegun (xs : List ℕ) (order : List ℕ) (n : ℕ) : Type 0 where
  pub place : ℕ
  pub within : place < length order
  pub stands : get_or order place 0 ≡ n
  pub passes : begins xs order place ≡ true

-- a number that begins no address follows one with the same address, which is itself where that isn't lesser
begun-before : (xs : List ℕ) (order : List ℕ) (k : ℕ) → IsOrder xs order → suc k < length order → IsFirst xs (get_or order (suc k) 0) → begins xs order (suc k) ≡ false
    → get_or order k 0 ≡ get_or order (suc k) 0
begun-before xs order k is inside first fails =
    let less : suc k - 1 ≡ k = omega arith in
    let same : address_in xs (get_or order k 0) ≡ address_in xs (get_or order (suc k) 0) =
    ap (λ i. address_in xs (get_or order i 0)) (sym less) ∙ begins-same xs order (suc k) (omega arith) fails in
    let ranks : rank (address_in xs (get_or order k 0)) (get_or order k 0) ≤ rank (address_in xs (get_or order (suc k) 0)) (get_or order (suc k) 0) =
    is.sorted k (suc k) 0 (omega arith) inside in
    let up : get_or order k 0 ≤ get_or order (suc k) 0 = omega (arith, ranks, same) in
    elim (cases_lt (get_or order k 0) (get_or order (suc k) 0)) [
      | inl lesser_one ↦ absurd (first (get_or order k 0) lesser_one same)
      | inr more ↦ omega (arith, up, more)
    ]

begun-at : (xs : List ℕ) (order : List ℕ) (n k : ℕ) → IsOrder xs order → k < length order → get_or order k 0 ≡ n → IsFirst xs n → IsBegun xs order n
begun-at xs order n zero is inside stands first = record { place = 0; within = inside; stands = stands; passes = refl }
begun-at xs order n (suc k) is inside stands first =
    by-test (begins xs order (suc k)) refl (λ fails. begun-at xs order n k is (omega arith) (begun-before xs order k is inside (subst (IsFirst xs) (sym stands) first) fails ∙ stands) first)
  where
    by-test : (b : Bool) → begins xs order (suc k) ≡ b → (begins xs order (suc k) ≡ false → IsBegun xs order n) → IsBegun xs order n
    by-test true passes earlier = record { place = suc k; within = inside; stands = stands; passes = passes }
    by-test false fails earlier = earlier fails

-- ---- what is marked

pub marked-none : (xs : List ℕ) (order : List ℕ) (firsts : List Bool) → length firsts ≡ length xs → ((n : ℕ) → get_or firsts n false ≡ false) → AreMarked xs order firsts 0
marked-none xs order firsts count none = record {
  count = count;
  begun = λ k before. absurd (omega arith);
  sound = λ n passes. absurd (true≢false (sym passes ∙ none n));
}

keeps-true : (firsts : List Bool) (i j : ℕ) → i < length firsts → get_or firsts j false ≡ true → get_or (set firsts i true) j false ≡ true
keeps-true firsts i j inside is =
    ⊎_elim (λ same. get_or-set_at firsts i j true false same inside) (λ other. get_or-set_other firsts i j true false other ∙ is) (cases_eq j i)

was-true : (firsts : List Bool) (i j : ℕ) → get_or (set firsts i true) j false ≡ true → (j ≡ i) ⊎ (get_or firsts j false ≡ true)
was-true firsts i j is = ⊎_elim (λ same. inl same) (λ other. inr (sym (get_or-set_other firsts i j true false other) ∙ is)) (cases_eq j i)

pub marked-more : (xs : List ℕ) (order : List ℕ) (firsts more : List Bool) (k : ℕ) → length xs < 2 ^ 32 → IsOrder xs order → k < length order
    → AreMarked xs order firsts k → begins xs order k ≡ true → more ≡ set firsts (get_or order k 0) true → AreMarked xs order more (k + 1)
marked-more xs order firsts more k few is inside marked passes set_is = subst (λ l. AreMarked xs order l (k + 1)) (sym set_is) (record {
  count = length-set firsts (get_or order k 0) true ∙ marked.count;
  begun = below_more (λ j. begins xs order j ≡ true → get_or (set firsts (get_or order k 0) true) (get_or order j 0) false ≡ true) k
      (λ j before begun. keeps-true firsts (get_or order k 0) (get_or order j 0) within (marked.begun j before begun))
      (λ begun. get_or-set_same firsts (get_or order k 0) true false within);
  sound = λ n found. sound n (was-true firsts (get_or order k 0) n found);
})
  where
    within : get_or order k 0 < length firsts
    within = let there = number-at xs order k is inside in omega (arith, there, marked.count)

    sound : (n : ℕ) → (n ≡ get_or order k 0) ⊎ (get_or firsts n false ≡ true) → IsFirst xs n
    sound n (inl same) = subst (IsFirst xs) (sym same) (begins-first xs order k few is inside passes)
    sound n (inr before) = marked.sound n before

pub marked-same : (xs : List ℕ) (order : List ℕ) (firsts : List Bool) (k : ℕ) → AreMarked xs order firsts k → begins xs order k ≡ false → AreMarked xs order firsts (k + 1)
marked-same xs order firsts k marked fails = record {
  count = marked.count;
  begun = below_more (λ j. begins xs order j ≡ true → get_or firsts (get_or order j 0) false ≡ true) k marked.begun (λ passes. absurd (true≢false (sym passes ∙ fails)));
  sound = marked.sound;
}

-- ---- the test of a number

same-bools : (x y : Bool) → (x ≡ true → y ≡ true) → (y ≡ true → x ≡ true) → x ≡ y
same-bools true y one other = sym (one refl)
same-bools false true one other = other refl
same-bools false false one other = refl

pub first-passes : (xs : List ℕ) (n : ℕ) → n < length xs → IsFirst xs n → is_first xs n ≡ true
first-passes xs n inside first =
    ap not (list_any_none (λ a. a == address_in xs n) (take n xs)
    (λ k d within.
    let before : k < n = omega (arith, within, length-take n xs) in
    false_from_ne_true _ (λ same. first k before (sym (get_or_default xs k d 0 (omega arith)) ∙ sym (get_or-take n xs k d before) ∙ eqb-true _ _ same))))

pub passes-first : (xs : List ℕ) (n : ℕ) → n < length xs → is_first xs n ≡ true → IsFirst xs n
passes-first xs n inside passes m less same =
    true≢false (sym passes ∙ ap not (list_any_at (λ a. a == address_in xs n) (take n xs) m 0 (omega (arith, less, inside, length-take n xs))
    (eq-eqb _ _ (get_or-take n xs m 0 less ∙ same))))

-- where no two numbers have the same address the one that has it is the first
pub stands-first : (xs : List ℕ) (address number : ℕ) → AreAllFirst xs → StandsAt xs number address → number_with xs address ≡ Some number
stands-first xs address number all stands =
    number-first xs address number stands.within stands.address_is
    (λ m before same. passes-first xs number stands.within (all.each number stands.within) m before (same ∙ sym stands.address_is))

pub marked-all : (xs : List ℕ) (order : List ℕ) (firsts : List Bool) → IsOrder xs order → AreMarked xs order firsts (length order) → AreFirsts xs firsts
marked-all xs order firsts is marked = record {
  count = marked.count;
  each = λ n inside. same-bools (get_or firsts n false) (is_first xs n) (λ found. first-passes xs n inside (marked.sound n found))
      (λ passes.
      let there = is.complete n inside in
      let begun = begun-at xs order n there.0 is there.1 (get_or_default order there.0 0 n there.1 ∙ there.2) (passes-first xs n inside passes) in
      subst (λ m. get_or firsts m false ≡ true) begun.stands (marked.begun begun.place begun.within begun.passes));
}

-- ---- where no two neighbours have one address

apart-begins : (xs : List ℕ) (pairs : List (ℕ × ℕ)) (k : ℕ) → AreRanked xs pairs → AreApart pairs → k < length pairs → begins xs (numbers_of pairs) k ≡ true
apart-begins xs pairs zero are apart inside = refl
apart-begins xs pairs (suc k) are apart inside =
    let next : k + 1 ≡ suc k = omega arith in
    let differs : (address_in xs (get_or (numbers_of pairs) k 0) == address_in xs (get_or (numbers_of pairs) (suc k) 0)) ≡ false =
    false_from_ne_true _ (λ same. apart k (omega arith)
    (sym (address-at xs pairs k 0 are.pairs_are (omega arith)) ∙ eqb-true _ _ same ∙ address-at xs pairs (suc k) 0 are.pairs_are inside ∙ ap (λ i. (get_or pairs i (0, 0)).0) (sym next))) in
    let less : suc k - 1 ≡ k = omega arith in
    rw (not-zero (suc k) (omega arith), less, differs) refl

pub apart-first : (xs : List ℕ) (pairs : List (ℕ × ℕ)) → AreRanked xs pairs → AreApart pairs → AreAllFirst xs
apart-first xs pairs are apart = record {
  each = λ n inside.
      let order = order-of xs pairs are in
      let there = order.complete n inside in
      let listed : there.0 < length pairs = omega (arith, there.1, length-map pairs (λ (p : ℕ × ℕ). p.1)) in
      let stands : get_or (numbers_of pairs) there.0 0 ≡ n = get_or_default (numbers_of pairs) there.0 0 n there.1 ∙ there.2 in
      first-passes xs n inside (subst (IsFirst xs) stands
      (begins-first xs (numbers_of pairs) there.0 are.few order there.1 (apart-begins xs pairs there.0 are apart listed)));
}

-- a pair begins an address where its number does
pub begins-pair : (xs : List ℕ) (pairs : List (ℕ × ℕ)) (k : ℕ) → AreRanked xs pairs → k < length pairs → begins xs (numbers_of pairs) k ≡ begins_at pairs k
begins-pair xs pairs k are inside =
    ap₂ (λ a b. (k == 0) || not (a == b)) (address-at xs pairs (k - 1) 0 are.pairs_are (omega arith)) (address-at xs pairs k 0 are.pairs_are inside)
