-- Numbers in the order of their addresses.
use Rattle.std.proofs.Common.{◌≡◌, ℕ, ◌+◌, ◌<◌, ◌≤◌, ◌==◌, ◌⊎◌, inl, inr, Bool, true, false, ltb, cond, List, length, get_or, map, None, Some, refl, sym, ◌∙◌, ap, subst, arith, [], ◌∷◌, ◌++◌, length-append, below_more, ◌^◌}
use Rattle.std.specs.Prelude.{All}
use Rattle.std.specs.List.Sorted.{IsNonDecreasingBy, IsPartitionPoint, IsPermutation, IsSorted}
use Rattle.std.specs.Ordering.{is_lt, ordering_then, nat_cmp}
use Rattle.std.specs.Cmp.{nat_cmp_is}
use Rattle.std.specs.declared.cmp.Ordering.TheVariants.{Less, Equal}
use Rattle.std.proofs.lemmas.Map.Keys.{ge_from_not_lt}
use Rattle.std.proofs.lemmas.List.Elements.{All-map}
use Rattle.std.proofs.lemmas.Bool.{true≢false, cases_lt, cases_order, false_from_ne_true, eq-eqb, eqb-true, ltb-true, ltb-false, lt-ltb, le-ltb}
use Rattle.std.proofs.lemmas.List.{get_or_default, get_or-map, length-map, get_or_push, get_or_append_left}
use Rattle.std.proofs.lemmas.List.Sorted.{length_permutation, All-permutation, Contains-permutation, IsNonDecreasingBy-from_all_adjacent}
use Rattle.std.specs.List.{position, position_or_len}
use Rattle.std.proofs.lemmas.List.Sums.{position_or_len_is}
use Rattle.cell_records.specs.Order.{address_in, rank, number_with, IsAddressPair, IsOrder, AreAddressPairs, AreRanked, AreSorted}
use Rattle.cell_records.specs.Inner.Places.{IsFirstFrom}

pub lesser : (a b m n : ℕ) → m < 2 ^ 32 → n < 2 ^ 32 → rank a m ≤ rank b n → a ≤ b
lesser a b m n one other ranks = omega arith

-- the numbers rise by address
pub by-address : (xs : List ℕ) (order : List ℕ) → length xs < 2 ^ 32 → IsOrder xs order → IsNonDecreasingBy (address_in xs) order
by-address xs order few is i j d up inside =
    let one = is.within i d (omega arith) in
    let other = is.within j d inside in
    lesser (address_in xs (get_or order i d)) (address_in xs (get_or order j d)) (get_or order i d) (get_or order j d) (omega (arith, one)) (omega (arith, other)) (is.sorted i j d up inside)

-- ---- the first element that passes a test

position-at : {X : Type 0} (p : X → Bool) (xs : List X) (i : ℕ) (d : X) → ((k : ℕ) → k < i → p (get_or xs k d) ≡ false) → i < length xs → p (get_or xs i d) ≡ true
    → position p xs ≡ Some i
position-at p xs i d below inside passes =
    let here : position_or_len p xs ≡ i = position_or_len_is p xs i d (omega arith) below (λ _. passes) in
    ap (λ n. cond (ltb n (length xs)) (Some n) None) here ∙ ap (λ b. cond b (Some i) None) (lt-ltb i (length xs) inside)

position-none : {X : Type 0} (p : X → Bool) (xs : List X) (d : X) → ((k : ℕ) → k < length xs → p (get_or xs k d) ≡ false) → position p xs ≡ None
position-none p xs d below =
    let past : position_or_len p xs ≡ length xs = position_or_len_is p xs (length xs) d (omega arith) below (λ inside. absurd (omega arith)) in
    ap (λ n. cond (ltb n (length xs)) (Some n) None) past ∙ ap (λ b. cond b (Some (length xs)) None) (le-ltb (length xs) (length xs) (omega arith))

-- ---- the first number with an address

has-address : (xs : List ℕ) (address n : ℕ) → address_in xs n ≡ address → (get_or xs n 0 == address) ≡ true
has-address xs address n is = eq-eqb _ _ is

lacks-address : (xs : List ℕ) (address n : ℕ) → (address_in xs n ≡ address → ⊥) → (get_or xs n 0 == address) ≡ false
lacks-address xs address n other = false_from_ne_true _ (λ same. other (eqb-true _ _ same))

-- a number with the address, and none before it
pub number-first : (xs : List ℕ) (address n : ℕ) → n < length xs → address_in xs n ≡ address → ((m : ℕ) → m < n → address_in xs m ≡ address → ⊥)
    → number_with xs address ≡ Some n
number-first xs address n inside is none = position-at (λ a. a == address) xs n 0 (λ m before. lacks-address xs address m (none m before)) inside (has-address xs address n is)

pub number-none : (xs : List ℕ) (address : ℕ) → ((m : ℕ) → m < length xs → address_in xs m ≡ address → ⊥) → number_with xs address ≡ None
number-none xs address none = position-none (λ a. a == address) xs 0 (λ m inside. lacks-address xs address m (none m inside))

-- ---- what a search by address finds

abbrev pub IsPointOf : List ℕ → List ℕ → ℕ → ℕ → Type 0
IsPointOf xs order address at = IsPartitionPoint (λ n. ltb (address_in xs n) address ≡ true) (λ n. ltb (address_in xs n) address ≡ false) order at

-- a number in front of the point has another address
front-differs : (xs : List ℕ) (order : List ℕ) (address at k n : ℕ) → IsPointOf xs order address at → k < at → get_or order k n ≡ n → address_in xs n ≡ address → ⊥
front-differs xs order address at k n point before there is =
    let less : address_in xs n < address = ltb-true _ _ (subst (λ m. ltb (address_in xs m) address ≡ true) there (point.0 k n (omega arith) before)) in
    omega (arith, less, is)

pub past-the-end : (xs : List ℕ) (order : List ℕ) (address at : ℕ) → IsOrder xs order → IsPointOf xs order address at → length order ≤ at
    → number_with xs address ≡ None
past-the-end xs order address at is point past =
    number-none xs address
    (λ m inside same. let there = is.complete m inside in front-differs xs order address at there.0 m point (omega (arith, there.1)) there.2 same)

-- a number at an earlier place has no greater rank
pub ranked : (xs : List ℕ) (order : List ℕ) (i j m n : ℕ) → IsOrder xs order → i ≤ j → j < length order → get_or order i m ≡ m → get_or order j n ≡ n
    → rank (address_in xs m) m ≤ rank (address_in xs n) n
ranked xs order i j m n is up inside one other =
    let first : get_or order i 0 ≡ m = get_or_default order i 0 m (omega arith) ∙ one in
    let second : get_or order j 0 ≡ n = get_or_default order j 0 n inside ∙ other in
    subst (λ k. rank (address_in xs m) m ≤ rank (address_in xs k) k) second
    (subst (λ k. rank (address_in xs k) k ≤ rank (address_in xs (get_or order j 0)) (get_or order j 0)) first (is.sorted i j 0 up inside))

pub found-there : (xs : List ℕ) (order : List ℕ) (address at n : ℕ) → IsOrder xs order → IsPointOf xs order address at → at < length order
    → n ≡ get_or order at n → address_in xs n ≡ address → number_with xs address ≡ Some n
found-there xs order address at n is point inside read same =
    let here : n < length xs = subst (λ k. k < length xs) (sym read) (is.within at n inside) in
    number-first xs address n here same
    (λ m less equal.
    let there = is.complete m (omega arith) in
    elim (cases_lt there.0 at) [
      | inl earlier ↦ front-differs xs order address at there.0 m point earlier there.2 equal
      | inr later ↦ let ranks = ranked xs order at there.0 n m is later there.1 (sym read) there.2 in omega (arith, ranks, same, equal, less)
    ])

pub other-there : (xs : List ℕ) (order : List ℕ) (address at n : ℕ) → length xs < 2 ^ 32 → IsOrder xs order → IsPointOf xs order address at → at < length order
    → n ≡ get_or order at n → (address_in xs n ≡ address → ⊥) → number_with xs address ≡ None
other-there xs order address at n few is point inside read other =
    let here : n < length xs = subst (λ k. k < length xs) (sym read) (is.within at n inside) in
    let behind : address ≤ address_in xs n =
    ltb-false _ _ (subst (λ k. ltb (address_in xs k) address ≡ false) (sym read) (point.1 at n (omega arith) inside)) in
    number-none xs address
    (λ m within same.
    let there = is.complete m within in
    elim (cases_lt there.0 at) [
      | inl earlier ↦ front-differs xs order address at there.0 m point earlier there.2 same
      | inr later ↦
          let ranks = ranked xs order at there.0 n m is later there.1 (sym read) there.2 in
          let up : address_in xs n ≤ address_in xs m = lesser (address_in xs n) (address_in xs m) n m (omega arith) (omega arith) ranks in
          other (omega (arith, up, behind, same))
    ])

-- ---- pairs of addresses and numbers

pub pairs-more : (xs : List ℕ) (pairs more : List (ℕ × ℕ)) (i : ℕ) → length pairs ≡ i → ((k : ℕ) (d : ℕ × ℕ) → k < i → get_or pairs k d ≡ (address_in xs k, k))
    → more ≡ pairs ++ (address_in xs i, i) ∷ [] → (length more ≡ i + 1) × ((k : ℕ) (d : ℕ × ℕ) → k < i + 1 → get_or more k d ≡ (address_in xs k, k))
pairs-more xs pairs more i count each is = (
  ap length is ∙ length-append pairs ((address_in xs i, i) ∷ []) ∙ omega (arith, count),
  λ k d inside. below_more (λ j. get_or more j d ≡ (address_in xs j, j)) i (before d) (ap (λ l. get_or l i d) is ∙ get_or_push pairs (address_in xs i, i) d i count) k inside,
)
  where
    before : (d : ℕ × ℕ) (j : ℕ) → j < i → get_or more j d ≡ (address_in xs j, j)
    before d j inside = ap (λ l. get_or l j d) is ∙ get_or_append_left pairs ((address_in xs i, i) ∷ []) d j (omega (arith, inside, count)) ∙ each j d inside

pub pairs-all : (xs : List ℕ) (pairs : List (ℕ × ℕ)) (i : ℕ) → length pairs ≡ i → ((k : ℕ) (d : ℕ × ℕ) → k < i → get_or pairs k d ≡ (address_in xs k, k))
    → i ≡ length xs → AreAddressPairs xs pairs
pairs-all xs pairs i count each all = record {
  count = count ∙ all;
  each = λ k d inside. subst (IsAddressPair xs) (sym (each k d (omega (arith, inside, count)))) (pair k (omega (arith, inside, count, all)));
  complete = λ n inside. (n, omega (arith, inside, count, all), each n (address_in xs n, n) (omega (arith, inside, all)));
}
  where
    pair : (k : ℕ) → k < length xs → IsAddressPair xs (address_in xs k, k)
    pair k inside = record { within = inside; address = refl }

-- ---- sorted pairs

pub pairs-moved : (xs : List ℕ) (pairs sorted : List (ℕ × ℕ)) → AreAddressPairs xs pairs → IsPermutation pairs sorted → AreAddressPairs xs sorted
pairs-moved xs pairs sorted are moved = record {
  count = length_permutation pairs sorted moved ∙ are.count;
  each = All-permutation (IsAddressPair xs) pairs sorted moved are.each;
  complete = λ n inside. Contains-permutation pairs sorted (address_in xs n, n) moved (are.complete n inside);
}

-- a pair that isn't less than another one has no lesser rank
not-less : (a m b n : ℕ) → m < 2 ^ 32 → n < 2 ^ 32 → is_lt (ordering_then (nat_cmp b a) (nat_cmp n m)) ≡ false → rank a m ≤ rank b n
not-less a m b n one other stands = by-order (cases_order a b)
  where
    by-order : (a ≡ b) ⊎ ((a < b) ⊎ (b < a)) → rank a m ≤ rank b n
    by-order (inl same) =
        let equal : Equal ≡ nat_cmp b a = nat_cmp_is b a Equal (sym same) in
        let up : m ≤ n = ge_from_not_lt n m (ap (λ o. is_lt (ordering_then o (nat_cmp n m))) equal ∙ stands) in
        omega (arith, same, up)
    by-order (inr (inl less)) = omega (arith, less, one)
    by-order (inr (inr more)) =
        let greater : Less ≡ nat_cmp b a = nat_cmp_is b a Less more in
        absurd (true≢false (ap (λ o. is_lt (ordering_then o (nat_cmp n m))) greater ∙ stands))

pub pairs-ranked : (pairs : List (ℕ × ℕ)) → All (λ (p : ℕ × ℕ). p.1 < 2 ^ 32) pairs → IsSorted (λ x y. ordering_then (nat_cmp x.0 y.0) (nat_cmp x.1 y.1)) pairs → AreSorted pairs
pairs-ranked pairs few sorted =
    IsNonDecreasingBy-from_all_adjacent (λ (p : ℕ × ℕ). rank p.0 p.1) pairs
    (λ k d inside.
    let one = few k d (omega arith) in
    let other = few (k + 1) d inside in
    not-less (get_or pairs k d).0 (get_or pairs k d).1 (get_or pairs (k + 1) d).0 (get_or pairs (k + 1) d).1 (omega (arith, one)) (omega (arith, other)) (sorted k d (omega arith) inside))

-- the numbers of sorted pairs
pub order-is : (xs : List ℕ) (pairs : List (ℕ × ℕ)) (order : List ℕ) → AreAddressPairs xs pairs → AreSorted pairs
    → map (λ (p : ℕ × ℕ). p.1) pairs ≡ order → IsOrder xs order
order-is xs pairs order are sorted is = subst (IsOrder xs) is (record {
  within = All-map (λ n. n < length xs) (λ (p : ℕ × ℕ). p.1) pairs (λ k d inside. (are.each k d inside).within);
  complete = λ n inside. let there = are.complete n inside in (
    there.0,
    omega (arith, there.1, length-map pairs (λ (p : ℕ × ℕ). p.1)),
    get_or-map (λ (p : ℕ × ℕ). p.1) pairs there.0 (address_in xs n, n) n there.1 ∙ ap (λ (p : ℕ × ℕ). p.1) there.2,
  );
  sorted = λ i j d up inside.
      let within : j < length pairs = omega (arith, inside, length-map pairs (λ (p : ℕ × ℕ). p.1)) in
      let i_is = get_or-map (λ (p : ℕ × ℕ). p.1) pairs i (0, 0) d (omega arith) in
      let j_is = get_or-map (λ (p : ℕ × ℕ). p.1) pairs j (0, 0) d within in
      let i_at = (are.each i (0, 0) (omega arith)).address in
      let j_at = (are.each j (0, 0) within).address in
      rw (i_is, j_is, i_at, j_at) (sorted i j (0, 0) up within);
})

-- ---- ranked pairs

abbrev pub numbers_of : List (ℕ × ℕ) → List ℕ
numbers_of pairs = map (λ (p : ℕ × ℕ). p.1) pairs

pub order-of : (xs : List ℕ) (pairs : List (ℕ × ℕ)) → AreRanked xs pairs → IsOrder xs (numbers_of pairs)
order-of xs pairs are = order-is xs pairs (numbers_of pairs) are.pairs_are are.sorted refl

-- the address of the record whose number stands at a place
pub address-at : (xs : List ℕ) (pairs : List (ℕ × ℕ)) (k d : ℕ) → AreAddressPairs xs pairs → k < length pairs
    → address_in xs (get_or (numbers_of pairs) k d) ≡ (get_or pairs k (0, 0)).0
address-at xs pairs k d are inside = ap (address_in xs) (get_or-map (λ (p : ℕ × ℕ). p.1) pairs k (0, 0) d inside) ∙ (are.each k (0, 0) inside).address

pub addresses-rise : (pairs : List (ℕ × ℕ)) → All (λ (p : ℕ × ℕ). p.1 < 2 ^ 32) pairs → AreSorted pairs → IsNonDecreasingBy (λ (p : ℕ × ℕ). p.0) pairs
addresses-rise pairs few sorted i j d up inside =
    lesser (get_or pairs i d).0 (get_or pairs j d).0 (get_or pairs i d).1 (get_or pairs j d).1 (few i d (omega arith)) (few j d inside) (sorted i j d up inside)

pub few-pairs : (xs : List ℕ) (pairs : List (ℕ × ℕ)) → AreRanked xs pairs → All (λ (p : ℕ × ℕ). p.1 < 2 ^ 32) pairs
few-pairs xs pairs are k d inside = let one = (are.pairs_are.each k d inside).within in omega (arith, one, are.few)

point-of : (xs : List ℕ) (pairs : List (ℕ × ℕ)) (address at : ℕ) → AreRanked xs pairs → IsFirstFrom pairs address at → IsPointOf xs (numbers_of pairs) address at
point-of xs pairs address at are first = (
  λ k d low before.
      let inside : k < length pairs = omega (arith, before, first.within) in
      let less : address_in xs (get_or (numbers_of pairs) k d) < address = let same = address-at xs pairs k d are.pairs_are inside in let front = first.front k before in omega (arith, same, front) in
      lt-ltb (address_in xs (get_or (numbers_of pairs) k d)) address less,
  λ k d low within.
      let inside : k < length pairs = omega (arith, within, length-map pairs (λ (p : ℕ × ℕ). p.1)) in
      let up = addresses-rise pairs (few-pairs xs pairs are) are.sorted at k (0, 0) low inside in
      let no_less : address ≤ address_in xs (get_or (numbers_of pairs) k d) =
      let same = address-at xs pairs k d are.pairs_are inside in let behind = first.behind (omega (arith, low, inside)) in omega (arith, same, behind, up) in
      le-ltb (address_in xs (get_or (numbers_of pairs) k d)) address no_less,
)

-- what stands at the first place whose address isn't lesser
pub none-there : (xs : List ℕ) (pairs : List (ℕ × ℕ)) (address at : ℕ) → AreRanked xs pairs → IsFirstFrom pairs address at → length pairs ≤ at → number_with xs address ≡ None
none-there xs pairs address at are first past =
    past-the-end xs (numbers_of pairs) address at (order-of xs pairs are) (point-of xs pairs address at are first) (omega (arith, past, length-map pairs (λ (p : ℕ × ℕ). p.1)))

pub number-there : (xs : List ℕ) (pairs : List (ℕ × ℕ)) (address at number : ℕ) → AreRanked xs pairs → IsFirstFrom pairs address at → at < length pairs
    → (get_or pairs at (0, 0)).1 ≡ number → (get_or pairs at (0, 0)).0 ≡ address → number_with xs address ≡ Some number
number-there xs pairs address at number are first inside is same =
    let read : number ≡ get_or (numbers_of pairs) at number = sym (get_or-map (λ (p : ℕ × ℕ). p.1) pairs at (0, 0) number inside ∙ is) in
    found-there xs (numbers_of pairs) address at number (order-of xs pairs are) (point-of xs pairs address at are first) (omega (arith, inside, length-map pairs (λ (p : ℕ × ℕ). p.1))) read
    (ap (address_in xs) read ∙ address-at xs pairs at number are.pairs_are inside ∙ same)

pub other-address : (xs : List ℕ) (pairs : List (ℕ × ℕ)) (address at : ℕ) → AreRanked xs pairs → IsFirstFrom pairs address at → at < length pairs
    → ((get_or pairs at (0, 0)).0 ≡ address → ⊥) → number_with xs address ≡ None
other-address xs pairs address at are first inside other =
    let number = (get_or pairs at (0, 0)).1 in
    let read : number ≡ get_or (numbers_of pairs) at number = sym (get_or-map (λ (p : ℕ × ℕ). p.1) pairs at (0, 0) number inside) in
    other-there xs (numbers_of pairs) address at number are.few (order-of xs pairs are) (point-of xs pairs address at are first)
    (omega (arith, inside, length-map pairs (λ (p : ℕ × ℕ). p.1))) read (λ same. other (sym (address-at xs pairs at number are.pairs_are inside) ∙ ap (address_in xs) (sym read) ∙ same))
