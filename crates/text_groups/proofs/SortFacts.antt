-- A stable sort by a number, the largest first, gives the rows as the definition has them.
use Rattle.std.proofs.Common.{◌≡◌, ℕ, suc, ◌+◌, ◌<◌, ◌≤◌, ◌==◌, ◌⊎◌, inl, inr, Bool, true, false, cond, List, [], ◌∷◌, get_or, filter, if◌then◌else◌, refl, sym, ◌∙◌, ap, subst, arith}
use Rattle.std.specs.Prelude.{All, nat_lt}
use Rattle.std.specs.List.Sorted.{IsSortedBy, IsStableBy, ties}
use Rattle.std.specs.Cmp.{IsStrictWeakOrder}
use Rattle.std.specs.Fn.{Called, ComparesAs}
use Rattle.std.specs.Ordering.{is_lt, nat_cmp}
use Rattle.std.specs.declared.cmp.Ordering.{Ordering}
use Rattle.std.proofs.lemmas.Fn.{always_returns_same}
use denote.Param.Members.{Mut}
use denote.Ref.{Bor}
use Rattle.std.proofs.lemmas.Bool.{cases_lt, cases_order, eq-eqb, eqb-true, ne_eqb, ltb-true, ltb-false}
use Rattle.std.proofs.lemmas.Bool.Decides.{nat_tests}
use Rattle.std.proofs.lemmas.List.Elements.{All-nil, All-cons, All-head, All-tail, All-weaker, filter_agree}
use Rattle.std.proofs.lemmas.List.Sorted.{sorted_far, ranks_by}
use Rattle.std.proofs.lemmas.Cmp.{back_total, nat_cmp_total}
use Rattle.std.proofs.lemmas.Map.Keys.{ge_from_not_lt}
use Rattle.text_groups.specs.Sorting.{put_row, most_first}

module _ {X : Type 0} (key : X → ℕ) where
  -- the two have one key
  abbrev same : X → X → Bool
  same z w = key z == key w

  -- each row has no less than those behind it
  abbrev Down : List X → Type 0
  Down [] = Unit {0}
  Down (x ∷ rows) = All (λ y. key y ≤ key x) rows × Down rows

  -- ---- the definition is in order, and keeps rows with one key in their order

  All-put : (P : X → Type 0) (x : X) (rows : List X) → P x → All P rows → All P (put_row key x rows)
  All-put P x [] one all = All-cons P x [] one all
  All-put P x (y ∷ rows) one all = by (nat_lt (key x) (key y)) (All-put P x rows one (All-tail P y rows all))
    where
      by : (b : Bool) → All P (put_row key x rows) → All P (if b then y ∷ put_row key x rows else x ∷ (y ∷ rows))
      by true rest = All-cons P y (put_row key x rows) (All-head P y rows all) rest
      by false rest = All-cons P x (y ∷ rows) one all

  Down-put : (x : X) (rows : List X) → Down rows → Down (put_row key x rows)
  Down-put x [] down = (All-nil (λ y. key y ≤ key x), tt)
  Down-put x (y ∷ rows) down = by (nat_lt (key x) (key y)) refl (Down-put x rows down.1)
    where
      by : (b : Bool) → nat_lt (key x) (key y) ≡ b → Down (put_row key x rows) → Down (if b then y ∷ put_row key x rows else x ∷ (y ∷ rows))
      by true is rest = (All-put (λ z. key z ≤ key y) x rows (let less : key x < key y = ltb-true _ _ is in omega (arith, less)) down.0, rest)
      by false is rest =
          let more : key y ≤ key x = ltb-false _ _ is in
          (All-cons (λ z. key z ≤ key x) y rows more (All-weaker (λ z. key z ≤ key y) (λ z. key z ≤ key x) (λ z le. omega (arith, le, more)) rows down.0), down)

  Down-most : (rows : List X) → Down (most_first key rows)
  Down-most [] = tt
  Down-most (x ∷ rows) = Down-put x (most_first key rows) (Down-most rows)

  filter-put : (z x : X) (rows : List X) → filter (same z) (put_row key x rows) ≡ filter (same z) (x ∷ rows)
  filter-put z x [] = refl
  filter-put z x (y ∷ rows) = by (nat_lt (key x) (key y)) refl (filter-put z x rows)
    where
      swap : (a b : Bool) → same z x ≡ a → same z y ≡ b → key x < key y → cond b (y ∷ cond a (x ∷ filter (same z) rows) (filter (same z) rows)) (cond a (x ∷ filter (same z) rows) (filter (same z) rows))
          ≡ cond a (x ∷ cond b (y ∷ filter (same z) rows) (filter (same z) rows)) (cond b (y ∷ filter (same z) rows) (filter (same z) rows))
      swap true true one other less = absurd (let a = eqb-true (key z) (key x) one in let b = eqb-true (key z) (key y) other in omega (arith, a, b, less))
      swap true false one other less = refl
      swap false true one other less = refl
      swap false false one other less = refl

      by : (b : Bool) → nat_lt (key x) (key y) ≡ b → filter (same z) (put_row key x rows) ≡ filter (same z) (x ∷ rows)
          → filter (same z) (if b then y ∷ put_row key x rows else x ∷ (y ∷ rows)) ≡ filter (same z) (x ∷ (y ∷ rows))
      by true is rest = ap (λ l. cond (same z y) (y ∷ l) l) rest ∙ swap (same z x) (same z y) refl refl (ltb-true _ _ is)
      by false is rest = refl

  filter-most : (z : X) (rows : List X) → filter (same z) (most_first key rows) ≡ filter (same z) rows
  filter-most z [] = refl
  filter-most z (x ∷ rows) = filter-put z x (most_first key rows) ∙ ap (λ l. cond (same z x) (x ∷ l) l) (filter-most z rows)

  -- ---- there is one such list

  none-same : (z : X) (rows : List X) → All (λ y. key y < key z) rows → filter (same z) rows ≡ []
  none-same z [] all = refl
  none-same z (y ∷ rows) all =
      let less = All-head (λ y. key y < key z) y rows all in
      ap (λ b. cond b (y ∷ filter (same z) rows) (filter (same z) rows)) (ne_eqb (key z) (key y) (λ is. omega (arith, less, is)))
      ∙ none-same z rows (All-tail (λ y. key y < key z) y rows all)

  filter-same : (x : X) (rows : List X) → filter (same x) (x ∷ rows) ≡ x ∷ filter (same x) rows
  filter-same x rows = ap (λ b. cond b (x ∷ filter (same x) rows) (filter (same x) rows)) (eq-eqb (key x) (key x) refl)

  -- the first of the one has no more than the first of the other
  no-more : (x y : X) (xs ys : List X) → Down (y ∷ ys) → filter (same x) (x ∷ xs) ≡ filter (same x) (y ∷ ys) → key x ≤ key y
  no-more x y xs ys down is = by (cases_lt (key y) (key x))
    where
      by : (key y < key x) ⊎ (key x ≤ key y) → key x ≤ key y
      by (inr le) = le
      by (inl less) =
          let gone : filter (same x) (y ∷ ys) ≡ [] =
          none-same x (y ∷ ys) (All-cons (λ z. key z < key x) y ys less (All-weaker (λ z. key z ≤ key y) (λ z. key z < key x) (λ z le. omega (arith, le, less)) ys down.0)) in
          absurd (let e = sym (filter-same x xs) ∙ is ∙ gone in let no : ⊥ = cc (e) in no)

  strip : (z x : X) (xs ys : List X) (b : Bool) → cond b (x ∷ xs) xs ≡ cond b (x ∷ ys) ys → xs ≡ ys
  strip z x xs ys true is = cc (is)
  strip z x xs ys false is = is

  one-order : (xs ys : List X) → Down xs → Down ys → ((z : X) → filter (same z) xs ≡ filter (same z) ys) → xs ≡ ys
  one-order [] [] down other agree = refl
  one-order [] (y ∷ ys) down other agree = absurd (let e = agree y ∙ filter-same y ys in let no : ⊥ = cc (e) in no)
  one-order (x ∷ xs) [] down other agree = absurd (let e = sym (agree x) ∙ filter-same x xs in let no : ⊥ = cc (e) in no)
  one-order (x ∷ xs) (y ∷ ys) down other agree =
      let up = no-more x y xs ys other (agree x) in
      let back = no-more y x ys xs down (sym (agree y)) in
      let equal : key x ≡ key y = omega (arith, up, back) in
      let heads : x ∷ filter (same x) xs ≡ y ∷ filter (same x) ys =
      sym (filter-same x xs) ∙ agree x ∙ ap (λ b. cond b (y ∷ filter (same x) ys) (filter (same x) ys)) (eq-eqb (key x) (key y) equal) in
      let first : x ≡ y = cc (heads) in
      let rest : xs ≡ ys =
      one-order xs ys down.1 other.1 (λ z. strip z x (filter (same z) xs) (filter (same z) ys) (same z x) (agree z ∙ ap (λ w. cond (same z w) (w ∷ filter (same z) ys) (filter (same z) ys)) (sym first))) in
      ap (λ l. x ∷ l) rest ∙ ap (λ w. w ∷ ys) first

  -- ---- what a sort ensures

  -- the order by which the largest comes first
  abbrev pub largest : X → X → Bool
  largest z w = is_lt (nat_cmp (key w) (key z))

  tie : (z w : X) → ties largest z w ≡ same z w
  tie z w = by (cases_order (key z) (key w))
    where
      by : (key z ≡ key w) ⊎ ((key z < key w) ⊎ (key w < key z)) → ties largest z w ≡ same z w
      by o = grind (arith, nat_tests)

  Down-sorted : (rows : List X) → IsSortedBy largest rows → Down rows
  Down-sorted [] up = tt
  Down-sorted (x ∷ rows) up = (
    λ k d inside. ge_from_not_lt (key x) (key (get_or rows k d)) (sorted_far largest (ranks_by (back_total nat_cmp_total) key) (x ∷ rows) up 0 (suc k) d (omega arith) (omega (arith, inside))),
    Down-sorted rows (λ k d low inside.
        let next : suc (k + 1) ≡ suc k + 1 = omega arith in
        subst (λ n. largest (get_or (x ∷ rows) n d) (get_or rows k d) ≡ false) (sym next) (up (suc k) d (omega arith) (omega (arith, inside)))),
  )

  pub sorted-most : (old new : List X) → IsSortedBy largest new → IsStableBy largest old new → new ≡ most_first key old
  sorted-most old new up stable =
      one-order new (most_first key old) (Down-sorted new up) (Down-most old)
      (λ z. sym (filter_agree (ties largest z) (same z) (tie z) new) ∙ stable z ∙ filter_agree (ties largest z) (same z) (tie z) old ∙ sym (filter-most z old))

  -- the same of the calls of a closure that compares by the key
  pub most-from_sort : {F : Type 0} {g : Mut F (Bor X × (Bor X × Unit {0})) Ordering} {f : F} (old new : List X)
      → ((lt : X → X → Bool) → IsStrictWeakOrder lt → ComparesAs g lt f → IsSortedBy lt new) → ((lt : X → X → Bool) → IsStrictWeakOrder lt → ComparesAs g lt f → IsStableBy lt old new)
      → ((a : Bor X × (Bor X × Unit {0})) (r : Ordering) (f' : F) → Called g f a r f' → (r ≡ nat_cmp (key a.1.0.now) (key a.0.now)) × (f' ≡ f)) → new ≡ most_first key old
  most-from_sort {g = g} {f = f} old new up stable answers =
      let order : IsStrictWeakOrder largest = ranks_by (back_total nat_cmp_total) key in
      let compares : ComparesAs g largest f = always_returns_same g (λ a r. is_lt r ≡ largest a.0.now a.1.0.now) f (λ a r f' call. (ap is_lt (answers a r f' call).0, (answers a r f' call).1)) in
      sorted-most old new (up largest order compares) (stable largest order compares)
