-- The numbers of the parts that reach a cell: which they are, and that they rise.
use Rattle.std.proofs.Common.{◌≡◌, ℕ, zero, suc, ◌+◌, ◌≤◌, ◌⊎◌, ◌↔◌, Bool, true, false, List, [], ◌∷◌, ◌++◌, refl, sym, ◌∙◌, ap, subst, inl, inr, arith}
use Rattle.std.proofs.lemmas.Bool.{false≢true}
use Rattle.std.proofs.lemmas.Option.{none-some, same_Some}
use Rattle.cell_graphs.specs.Graphs.{Graph, LeadsWithin}
use Rattle.cell_graphs.specs.Reached.{Reached}
use Rattle.heap_weights.specs.declared.holders.Holder.TheVariants.{Nobody, Several, Part}
use Rattle.heap_weights.specs.Holders.{holder_among}
use Rattle.heap_weights.specs.Laws.{Reaches, ReachesAlone, TwoReach}
use Rattle.heap_weights.specs.Parts.{holder_of, number_if, reached_at, reaching, reaching_from}
use Rattle.heap_weights.proofs.Reaching.{reached-value, value-reached}

-- ---- lists of numbers

-- the list has the number
abbrev Has : List ℕ → ℕ → Type 0
Has [] a = ⊥
Has (x ∷ xs) a = (x ≡ a) ⊎ Has xs a

-- the numbers rise, from this one on
abbrev Rises : ℕ → List ℕ → Type 0
Rises low [] = Unit {0}
Rises low (x ∷ xs) = (low ≤ x) × Rises (suc x) xs

rises-lower : (low : ℕ) (xs : List ℕ) → Rises (suc low) xs → Rises low xs
rises-lower low [] up = tt
rises-lower low (x ∷ xs) up = (omega (arith, up.0), up.1)

rises-one : (b : Bool) (low : ℕ) (xs : List ℕ) → Rises (suc low) xs → Rises low (number_if b low ++ xs)
rises-one true low xs up = (omega arith, up)
rises-one false low xs up = rises-lower low xs up

has-parts : (b : Bool) (x : ℕ) (xs : List ℕ) (a : ℕ) → Has (number_if b x ++ xs) a → ((b ≡ true) × (x ≡ a)) ⊎ Has xs a
has-parts true x xs a (inl same) = inl (refl, same)
has-parts true x xs a (inr later) = inr later
has-parts false x xs a has = inr has

has-first : (b : Bool) (x : ℕ) (xs : List ℕ) (a : ℕ) → b ≡ true → x ≡ a → Has (number_if b x ++ xs) a
has-first true x xs a is same = inl same
has-first false x xs a is same = absurd (false≢true is)

has-later : (b : Bool) (x : ℕ) (xs : List ℕ) (a : ℕ) → Has xs a → Has (number_if b x ++ xs) a
has-later true x xs a has = inr has
has-later false x xs a has = has

module _ (graph : Graph) (within : LeadsWithin graph) (n : ℕ) where
  -- ---- the parts that reach the cell

  numbers-rise : (part : ℕ) (parts : List ℕ) → Rises part (reaching_from part graph parts n)
  numbers-rise part [] = tt
  numbers-rise part (e ∷ parts) = rises-one (reached_at graph e n) part (reaching_from (suc part) graph parts n) (numbers-rise (suc part) parts)

  has-reaches : (part : ℕ) (parts : List ℕ) (a : ℕ) → Has (reaching_from part graph parts n) a → (k : ℕ) × (a ≡ part + k) × Reaches graph parts k n
  has-reaches part [] a has = absurd has
  has-reaches part (e ∷ parts) a has =
      elim (has-parts (reached_at graph e n) part (reaching_from (suc part) graph parts n) a has) [
        | inl (is, same) ↦ (0, omega (arith, same), record { cell = e; here = refl; reached = value-reached graph within e n is })
        | inr later ↦
            let r = has-reaches (suc part) parts a later in
            let place : a ≡ part + suc r.0 = omega (arith, r.1) in
            (suc r.0, place, record { cell = r.2.cell; here = r.2.here; reached = r.2.reached })
      ]

  reaches-has : (part : ℕ) (parts : List ℕ) (k : ℕ) → Reaches graph parts k n → Has (reaching_from part graph parts n) (part + k)
  reaches-has part [] zero r = absurd (none-some r.cell r.here)
  reaches-has part [] (suc k) r = absurd (none-some r.cell r.here)
  reaches-has part (e ∷ parts) zero r =
      has-first (reached_at graph e n) part (reaching_from (suc part) graph parts n) (part + 0)
      (reached-value graph within e n (subst (λ x. Reached graph (λ k. k ≡ x) n) (sym (same_Some e r.cell r.here)) r.reached))
      (omega arith)
  reaches-has part (e ∷ parts) (suc k) r =
      has-later (reached_at graph e n) part (reaching_from (suc part) graph parts n) (part + suc k)
      (subst (Has (reaching_from (suc part) graph parts n)) (let same : suc part + k ≡ part + suc k = omega arith in same)
      (reaches-has (suc part) parts k (record { cell = r.cell; here = r.here; reached = r.reached })))

  module _ (parts : List ℕ) where
    abbrev Reach : ℕ → Type 0
    Reach part = Reaches graph parts part n

    there : (a : ℕ) → Has (reaching graph parts n) a → Reach a
    there a has = let r = has-reaches 0 parts a has in subst Reach (let same : r.0 ≡ a = omega (arith, r.1) in same) r.2

    back : (a : ℕ) → Reach a → Has (reaching graph parts n) a
    back a r = subst (Has (reaching graph parts n)) (let same : 0 + a ≡ a = omega arith in same) (reaches-has 0 parts a r)

    -- ---- who holds it, by these numbers

    alone-there : (part : ℕ) (xs : List ℕ) → ((a : ℕ) → Has xs a → Reach a) → ((a : ℕ) → Reach a → Has xs a) → holder_among xs ≡ Part part → ReachesAlone graph parts part n
    alone-there part [] from to is = absurd (let no : ⊥ = cc (is) in no)
    alone-there part (x ∷ []) from to is =
        let same : x ≡ part = cc (is) in
        record {
          reaches = subst Reach same (from x (inl refl));
          alone = λ other r. elim (to other r) [ inl here ↦ sym here ∙ same | inr none ↦ absurd none ];
        }
    alone-there part (x ∷ y ∷ xs) from to is = absurd (let no : ⊥ = cc (is) in no)

    alone-back : (part low : ℕ) (xs : List ℕ) → ((a : ℕ) → Has xs a → Reach a) → ((a : ℕ) → Reach a → Has xs a) → Rises low xs → ReachesAlone graph parts part n → holder_among xs ≡ Part part
    alone-back part low [] from to up r = absurd (to part r.reaches)
    alone-back part low (x ∷ []) from to up r = ap Part (r.alone x (from x (inl refl)))
    alone-back part low (x ∷ y ∷ xs) from to up r =
        let one : x ≡ part = r.alone x (from x (inl refl)) in
        let other : y ≡ part = r.alone y (from y (inr (inl refl))) in
        absurd (omega (arith, one, other, up.1.0))

    several-there : (low : ℕ) (xs : List ℕ) → ((a : ℕ) → Has xs a → Reach a) → Rises low xs → holder_among xs ≡ Several → TwoReach graph parts n
    several-there low [] from up is = absurd (let no : ⊥ = cc (is) in no)
    several-there low (x ∷ []) from up is = absurd (let no : ⊥ = cc (is) in no)
    several-there low (x ∷ y ∷ xs) from up is = record {
      one = x;
      other = y;
      apart = omega (arith, up.1.0);
      one_reaches = from x (inl refl);
      other_reaches = from y (inr (inl refl));
    }

    several-back : (xs : List ℕ) → ((a : ℕ) → Reach a → Has xs a) → TwoReach graph parts n → holder_among xs ≡ Several
    several-back [] to two = absurd (to two.one two.one_reaches)
    several-back (x ∷ []) to two =
        elim (to two.one two.one_reaches) [
          | inr none ↦ absurd none
          | inl one ↦ elim (to two.other two.other_reaches) [ inr none ↦ absurd none | inl other ↦ absurd (omega (arith, one, other, two.apart)) ]
        ]
    several-back (x ∷ y ∷ xs) to two = refl

    nobody-there : (xs : List ℕ) → ((a : ℕ) → Reach a → Has xs a) → holder_among xs ≡ Nobody → (part : ℕ) → Reach part → ⊥
    nobody-there [] to is part r = to part r
    nobody-there (x ∷ []) to is part r = let no : ⊥ = cc (is) in no
    nobody-there (x ∷ y ∷ xs) to is part r = let no : ⊥ = cc (is) in no

    nobody-back : (xs : List ℕ) → ((a : ℕ) → Has xs a → Reach a) → ((part : ℕ) → Reach part → ⊥) → holder_among xs ≡ Nobody
    nobody-back [] from none = refl
    nobody-back (x ∷ xs) from none = absurd (none x (from x (inl refl)))

    pub alone-is : (part : ℕ) → (holder_of graph parts n ≡ Part part) ↔ ReachesAlone graph parts part n
    alone-is part = (
      alone-there part (reaching graph parts n) there back,
      alone-back part 0 (reaching graph parts n) there back (numbers-rise 0 parts),
    )

    pub several-is : (holder_of graph parts n ≡ Several) ↔ TwoReach graph parts n
    several-is = (several-there 0 (reaching graph parts n) there (numbers-rise 0 parts), several-back (reaching graph parts n) back)

    pub nobody-is : (holder_of graph parts n ≡ Nobody) ↔ ((part : ℕ) → Reach part → ⊥)
    nobody-is = (nobody-there (reaching graph parts n) back, nobody-back (reaching graph parts n) there)
