-- The first place of a key, among pairs that are sorted by key.
use Rattle.std.proofs.Common.{◌≡◌, ℕ, ◌+◌, ◌<◌, ◌≤◌, ◌⊎◌, inl, inr, Bool, true, false, cond, not, ◌&&◌, List, [], ◌∷◌, length, filter, get_or, Option, None, Some, suc, refl, sym, ◌∙◌, ap, subst, arith}
use Rattle.std.specs.Prelude.{find, position, slice_get, unwrap_or}
use Rattle.std.specs.List.{All, AllAdjacentBelow, Contains}
use Rattle.std.specs.List.Sorted.{IsNonDecreasingBy, IsPartitionedBy, IsPartitionPoint, IsPermutation, IsSorted, IsSortedByKey, IsStableByKey, ties}
use Rattle.std.specs.Cmp.{IsTotalOrder}
use Rattle.std.specs.Option.{option_map}
use Rattle.std.specs.Ordering.{is_eq, is_le, is_lt, is_some_and, nat_cmp, ordering_index, ordering_reverse, ordering_then}
use Rattle.std.specs.declared.cmp.Ordering.{Ordering}
use Rattle.std.specs.declared.cmp.Ordering.TheVariants.{Less, Equal, Greater}
use Rattle.std.proofs.lemmas.Bool.{cases_lt}
use Rattle.std.proofs.lemmas.Cmp.{alike_right, nat_cmp_total, on_total, then_total}
use Rattle.std.proofs.lemmas.List.Elements.{All-cons, All-contains, All-from_get_or, All-nil, filter_agree}
use Rattle.std.proofs.lemmas.List.Sorted.{All-permutation, Contains-permutation, IsNonDecreasingBy-from_all_adjacent, ranks_by, searchable_from_sorted, sorted_far}
use Rattle.std.proofs.lemmas.Option.{get_or_from_slice_get, slice_get_within}
use Rattle.dump_io.specs.Laws.Lists.{position-at, position-none}
use Rattle.dump_sections.specs.FindingLaws.{found-at, not-found}
use Rattle.dump_sections.specs.Places.{place_by}

-- ---- orders

lt-zero : (o : Ordering) → is_lt o ≡ true → ordering_index o ≡ 0
lt-zero Less is = refl
lt-zero Equal is = absurd (let no : ⊥ = cc (is) in no)
lt-zero Greater is = absurd (let no : ⊥ = cc (is) in no)

zero-lt : (o : Ordering) → ordering_index o ≤ 0 → is_lt o ≡ true
zero-lt Less le = refl
zero-lt Equal le = absurd (omega (arith, le))
zero-lt Greater le = absurd (omega (arith, le))

lt-other : (o : Ordering) → is_lt o ≡ true → is_eq o ≡ false
lt-other Less is = refl
lt-other Equal is = absurd (let no : ⊥ = cc (is) in no)
lt-other Greater is = absurd (let no : ⊥ = cc (is) in no)

greater-two : (o : Ordering) → is_lt o ≡ false → is_eq o ≡ false → 2 ≤ ordering_index o
greater-two Less is other = absurd (let no : ⊥ = cc (is) in no)
greater-two Equal is other = absurd (let no : ⊥ = cc (other) in no)
greater-two Greater is other = omega arith

two-other : (o : Ordering) → 2 ≤ ordering_index o → is_eq o ≡ false
two-other Less le = absurd (omega (arith, le))
two-other Equal le = absurd (omega (arith, le))
two-other Greater le = refl

-- ---- lists

-- each place is at most the next one
pub places-rise : {K : Type 0} (pairs : List (K × ℕ)) → AllAdjacentBelow (λ p q. true ≡ is_some_and is_le (Some (nat_cmp p.1 q.1))) pairs (length pairs)
    → IsNonDecreasingBy (λ p. p.1) pairs
places-rise pairs rising = IsNonDecreasingBy-from_all_adjacent (λ p. p.1) pairs (λ k d inside. at-most (get_or pairs k d).1 (get_or pairs (k + 1) d).1 (rising k d inside))
  where
    at-most : (m n : ℕ) → true ≡ is_some_and is_le (Some (nat_cmp m n)) → m ≤ n
    at-most m n is = grind (arith, is)

-- the first that passes is the first of those that do
find-filter : {X : Type 0} (p : X → Bool) (xs : List X) → find p xs ≡ slice_get (filter p xs) 0
find-filter p [] = refl
find-filter p (x ∷ xs) =
    elim (p x) as (λ b. cond b (Some x) (find p xs) ≡ slice_get (cond b (x ∷ filter p xs) (filter p xs)) 0) [ true ↦ refl | false ↦ find-filter p xs ]

module _ {K : Type 0} (R : K → K → Ordering) (total : IsTotalOrder R) (key : K) where
  -- whether a pair has the key
  abbrev has : K × ℕ → Bool
  has pair = is_eq (R pair.0 key)

  -- ---- a stable sort

  abbrev less : K × ℕ → K × ℕ → Bool
  less p q = is_lt (R p.0 q.0)

  tie : (p : K × ℕ) → ties less (key, 0) p ≡ has p
  tie p = ap (λ o. not (is_lt o) && not (is_lt (R p.0 key))) (total.antisymm key p.0) ∙ by (R p.0 key)
    where
      by : (o : Ordering) → (not (is_lt (ordering_reverse o)) && not (is_lt o)) ≡ is_eq o
      by Less = refl
      by Equal = refl
      by Greater = refl

  -- keeps the first pair of each key
  pub firsts-kept : (old new : List (K × ℕ)) → IsStableByKey (λ p. p.0) R old new → place_by R key new ≡ place_by R key old
  firsts-kept old new stable =
      ap (option_map (λ (p : K × ℕ). p.1))
      (find-filter has new
      ∙ ap (λ l. slice_get l 0) (sym (filter_agree (ties less (key, 0)) has tie new) ∙ stable (key, 0) ∙ filter_agree (ties less (key, 0)) has tie old)
      ∙ sym (find-filter has old))

  -- ---- a sort by key and place, of pairs whose places ascend

  -- the lowest place beside a key, if one of the pairs has it
  abbrev IsLowest : List (K × ℕ) → Option ℕ → Type 0
  IsLowest pairs None = All (λ p. has p ≡ false) pairs
  IsLowest pairs (Some n) = (p : K × ℕ) × Contains pairs p × (has p ≡ true) × (p.1 ≡ n) × All (λ q. has q ≡ true → n ≤ q.1) pairs

  -- it is the same however the pairs are ordered
  lowest-same : (old new : List (K × ℕ)) → IsPermutation old new → (m n : Option ℕ) → IsLowest old m → IsLowest new n → n ≡ m
  lowest-same old new moved None None none none' = refl
  lowest-same old new moved None (Some n) none (p, among, is, at, low) =
      absurd (let no : ⊥ = cc (is, All-contains (λ q. has q ≡ false) new p (All-permutation (λ q. has q ≡ false) old new moved none) among) in no)
  lowest-same old new moved (Some m) None (p, among, is, at, low) none =
      absurd (let no : ⊥ = cc (is, All-contains (λ q. has q ≡ false) new p none (Contains-permutation old new p moved among)) in no)
  lowest-same old new moved (Some m) (Some n) (p, among, is, at, low) (p', among', is', at', low') =
      let less = All-contains (λ q. has q ≡ true → m ≤ q.1) new p' (All-permutation (λ q. has q ≡ true → m ≤ q.1) old new moved low) among' is' in
      let more = All-contains (λ q. has q ≡ true → n ≤ q.1) new p low' (Contains-permutation old new p moved among) is in
      ap Some (omega (arith, less, more, at, at'))

  -- the places of the pairs with the key ascend
  abbrev Rises : List (K × ℕ) → Type 0
  Rises pairs = (i j : ℕ) (d : K × ℕ) → i ≤ j → j < length pairs → has (get_or pairs i d) ≡ true → has (get_or pairs j d) ≡ true → (get_or pairs i d).1 ≤ (get_or pairs j d).1

  lowest-behind : (p : K × ℕ) (pairs : List (K × ℕ)) (n : Option ℕ) → has p ≡ false → IsLowest pairs n → IsLowest (p ∷ pairs) n
  lowest-behind p pairs None other none = All-cons (λ q. has q ≡ false) p pairs other none
  lowest-behind p pairs (Some n) other (q, among, is, at, low) =
      (q, (suc among.0, omega (arith, among.1), among.2), is, at, All-cons (λ q. has q ≡ true → n ≤ q.1) p pairs (λ is. absurd (let no : ⊥ = cc (is, other) in no)) low)

  -- so the first of them has the lowest
  first-lowest : (pairs : List (K × ℕ)) → Rises pairs → IsLowest pairs (place_by R key pairs)
  first-lowest [] rises = All-nil (λ q. has q ≡ false)
  first-lowest (p ∷ pairs) rises =
      elim (has p) as (λ b. has p ≡ b → IsLowest (p ∷ pairs) (option_map (λ (q : K × ℕ). q.1) (cond b (Some p) (find has pairs)))) [
        | true ↦ λ is. (p, (0, omega arith, refl), is, refl, λ j d inside is'. rises 0 j d (omega arith) inside is is')
        | false ↦ λ other. lowest-behind p pairs (place_by R key pairs) other
            (first-lowest pairs (λ i j d le inside. rises (suc i) (suc j) d (omega (arith, le)) (omega (arith, inside))))
      ]
      refl

  -- by key and then by place
  abbrev pair_cmp : K × ℕ → K × ℕ → Ordering
  pair_cmp p q = ordering_then (R p.0 q.0) (nat_cmp p.1 q.1)

  not-before : (o : Ordering) (m n : ℕ) → o ≡ Equal → is_lt (ordering_then o (nat_cmp n m)) ≡ false → m ≤ n
  not-before o m n same upto = grind (arith, same, upto)

  sorted-rises : (pairs : List (K × ℕ)) → IsSorted pair_cmp pairs → Rises pairs
  sorted-rises pairs sorted i j d le inside is is' =
      let order = ranks_by (then_total (on_total (λ (p : K × ℕ). p.0) total) (on_total (λ (p : K × ℕ). p.1) nat_cmp_total)) (λ (p : K × ℕ). p) in
      let p = get_or pairs i d in
      let q = get_or pairs j d in
      let same : R q.0 p.0 ≡ Equal = alike_right total p.0 key q.0 (equal (R p.0 key) is) ∙ equal (R q.0 key) is' in
      not-before (R q.0 p.0) p.1 q.1 same (sorted_far (λ p q. is_lt (pair_cmp p q)) order pairs sorted i j d le inside)
    where
      equal : (o : Ordering) → is_eq o ≡ true → o ≡ Equal
      equal Less is = absurd (let no : ⊥ = cc (is) in no)
      equal Equal is = refl
      equal Greater is = absurd (let no : ⊥ = cc (is) in no)

  -- keeps the first pair of each key
  pub lowest-kept : (old new : List (K × ℕ)) → IsNonDecreasingBy (λ p. p.1) old → IsPermutation old new → IsSorted pair_cmp new → place_by R key new ≡ place_by R key old
  lowest-kept old new rising moved sorted =
      lowest-same old new moved (place_by R key old) (place_by R key new)
      (first-lowest old (λ i j d le inside is is'. rising i j d le inside))
      (first-lowest new (sorted-rises new sorted))

  -- ---- a binary search

  module _ (pairs : List (K × ℕ)) (sorted : IsSortedByKey (λ p. p.0) R pairs) where
    -- whether a pair comes before those with the key
    abbrev pub below : K × ℕ → Bool
    below p = is_lt (R p.0 key)

    rising : IsNonDecreasingBy (λ (p : K × ℕ). ordering_index (R p.0 key)) pairs
    rising = searchable_from_sorted total (λ (p : K × ℕ). p.0) pairs key sorted

    pub parted : IsPartitionedBy below pairs
    parted i j d le inside is =
        let up = rising i j d le inside in
        zero-lt (R (get_or pairs i d).0 key) (omega (arith, up, lt-zero (R (get_or pairs j d).0 key) is))

    module _ (at : ℕ) (point : IsPartitionPoint (λ p. below p ≡ true) (λ p. below p ≡ false) pairs at) where
      before : (d : K × ℕ) (k : ℕ) → k < at → k < length pairs → has (get_or pairs k d) ≡ false
      before d k less inside = lt-other (R (get_or pairs k d).0 key) (point.0 k d (omega arith) less)

      -- the pair there has the key
      pub found : (p : K × ℕ) → slice_get pairs at ≡ Some p → has p ≡ true → place_by R key pairs ≡ Some p.1
      found p there is =
          let inside : at < length pairs = slice_get_within pairs at p there in
          let place : position has pairs ≡ Some at = position-at has pairs p at p (λ k less. before p k less (omega (arith, less, inside))) there is in
          ap (option_map (λ (q : K × ℕ). q.1)) (found-at has pairs at p place ∙ ap (λ o. Some (unwrap_or o p)) there)

      -- it hasn't
      pub other : (p : K × ℕ) → slice_get pairs at ≡ Some p → has p ≡ false → place_by R key pairs ≡ None
      other p there is =
          ap (option_map (λ (q : K × ℕ). q.1))
          (not-found has pairs (position-none has pairs (All-from_get_or (λ q. has q ≡ false) pairs p (λ k inside. by k inside (cases_lt k at)))))
        where
          by : (k : ℕ) → k < length pairs → (k < at) ⊎ (at ≤ k) → has (get_or pairs k p) ≡ false
          by k inside (inl less) = before p k less inside
          by k inside (inr later) =
              let here : get_or pairs at p ≡ p = get_or_from_slice_get pairs at p p there in
              let low : is_lt (R p.0 key) ≡ false = subst (λ q. below q ≡ false) here (point.1 at p (omega arith) (slice_get_within pairs at p there)) in
              let two : 2 ≤ ordering_index (R (get_or pairs at p).0 key) = subst (λ (q : K × ℕ). 2 ≤ ordering_index (R q.0 key)) (sym here) (greater-two (R p.0 key) low is) in
              two-other (R (get_or pairs k p).0 key) (omega (arith, two, rising at k p later inside))

      -- there is none
      pub past : length pairs ≤ at → place_by R key pairs ≡ None
      past over =
          ap (option_map (λ (q : K × ℕ). q.1))
          (not-found has pairs (position-none has pairs (λ k d inside. before d k (omega (arith, over, inside)) inside)))
