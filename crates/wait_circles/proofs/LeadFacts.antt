-- Which numbers come to which, and how many tokens lie where.
use Rattle.std.proofs.Common.{◌≡◌, ◌≢◌, ℕ, zero, suc, ◌+◌, ◌<◌, ◌≤◌, ◌==◌, ◌⊎◌, inl, inr, Bool, true, false, cond, not, ◌&&◌, List, [], ◌∷◌, length, get_or, take, map, Option, None, Some, refl, sym, ◌∙◌, ap, ap₂, subst, arith, count_by}
use Rattle.std.specs.Prelude.{replicate, slice_index, slice_set}
use Rattle.std.proofs.lemmas.Bool.{cases_Bool, cases_eq, cases_lt, eqb-true, eq-eqb, ne_eqb, false≢true}
use Rattle.std.proofs.lemmas.List.{get_or-replicate, get_or-set_other, get_or-set_same, get_or_past, length-replicate, length-set, length-take, take_all}
use Rattle.std.proofs.lemmas.List.Sums.{count_by-le-length, sum_by-cons, sum_by_push, sum_by_more, get_or-le-sum_by}
use Rattle.wait_circles.specs.Steps.{upto}
use Rattle.wait_circles.specs.Inner.Leading.{onto, is_to, tokens, Comes, CountsLead, CountsTokens, reaches}
use Rattle.wait_circles.specs.Inner.Meeting.{here, later}
use Rattle.wait_circles.proofs.MeetFacts.{meets-as, within-meets, meets-within}

pub no-some : {X : Type 0} (x : X) → None ≡ Some x → ⊥
no-some x is = cc

pub to-is : (v : ℕ) (o : Option ℕ) → is_to v o ≡ true → o ≡ Some v
to-is v None is = absurd (false≢true is)
to-is v (Some w) is = ap Some (eqb-true w v is)

pub is-to : (v : ℕ) (o : Option ℕ) → o ≡ Some v → is_to v o ≡ true
is-to v o is = ap (is_to v) is ∙ eq-eqb v v refl

-- a number that leads to another is one of them
pub onto-below : (leads : List (Option ℕ)) (r v : ℕ) → onto leads r ≡ Some v → r < length leads
onto-below leads r v is =
    elim (cases_lt r (length leads)) [
      | inl less ↦ less
      | inr past ↦ absurd (no-some v (sym (get_or_past leads r None past) ∙ is))
    ]

-- ---- one after another

-- the last that leads there
pub last-step : (leads : List (Option ℕ)) (v r : ℕ) → Comes leads r v → (u : ℕ) × (onto leads u ≡ Some v) × ((u ≡ r) ⊎ Comes leads r u)
last-step leads v _ (here r is) = (r, is, inl refl)
last-step leads v _ (later r s at rest) =
    let found = last-step leads v s rest in
    (found.0, found.1, elim found.2 [ inl same ↦ inr (here r (at ∙ ap Some (sym same))) | inr more ↦ inr (later r s at more) ])

-- the first step
pub first-step : (leads : List (Option ℕ)) (r v s : ℕ) → onto leads r ≡ Some s → Comes leads r v → (v ≡ s) ⊎ Comes leads s v
first-step leads _ v s at (here r is) = inl (let e : Some v ≡ Some s = sym is ∙ at in cc)
first-step leads _ v s at (later r q other rest) = inr (let e : Some q ≡ Some s = sym other ∙ at in let same : q ≡ s = cc in subst (λ k. Comes leads k v) same rest)

pub comes-below : (leads : List (Option ℕ)) (r v : ℕ) → Comes leads r v → r < length leads
comes-below leads _ v (here r is) = onto-below leads r v is
comes-below leads _ v (later r s at rest) = onto-below leads r s at

-- ---- the test decides

pub reaches-comes : (leads : List (Option ℕ)) (v r : ℕ) → reaches leads v r ≡ true → Comes leads r v
reaches-comes leads v r is =
    meets-as (onto leads) (λ u. is_to v (onto leads u) ≡ true) (λ u. onto leads u ≡ Some v) r (λ u to. to-is v (onto leads u) to)
    (within-meets (onto leads) (λ u. is_to v (onto leads u)) (length leads) r is)

pub comes-reaches : (leads : List (Option ℕ)) (v r : ℕ) → Comes leads r v → reaches leads v r ≡ true
comes-reaches leads v r come =
    meets-within (onto leads) (λ u. is_to v (onto leads u)) (length leads) r (λ q s at. onto-below leads q s at)
    (λ q to. onto-below leads q v (to-is v (onto leads q) to))
    (meets-as (onto leads) (λ u. onto leads u ≡ Some v) (λ u. is_to v (onto leads u) ≡ true) r (λ u is. is-to v (onto leads u) is) come)

-- ---- tokens

pub token-counts : (places : List (Option ℕ)) (r v : ℕ) → onto places r ≡ Some v → 0 < tokens places v
token-counts places r v is =
    let inside : r < length places = onto-below places r v is in
    let one : ◌≡◌ {A = ℕ} (cond (is_to v (get_or places r None)) 1 0) 1 = ap (λ b. cond b 1 0) (is-to v (onto places r) is) in
    omega (arith, one, get_or-le-sum_by (λ o. cond (is_to v o) 1 0) places r None inside)

pub none-leads : (places : List (Option ℕ)) (r v : ℕ) → tokens places v ≡ 0 → onto places r ≡ Some v → ⊥
none-leads places r v none is = omega (arith, none, token-counts places r v is)

tokens-cons : (o : Option ℕ) (places : List (Option ℕ)) (v : ℕ) → tokens (o ∷ places) v ≡ cond (is_to v o) 1 0 + tokens places v
tokens-cons o places v = sum_by-cons (λ p. cond (is_to v p) 1 0) o places

pub some-leads : (places : List (Option ℕ)) (v : ℕ) → 0 < tokens places v → (u : ℕ) × (onto places u ≡ Some v)
some-leads [] v some = absurd (omega (arith, some))
some-leads (o ∷ places) v some =
    elim (cases_Bool (is_to v o)) [
      | inl is ↦ (0, to-is v o is)
      | inr other ↦
          let nought : ◌≡◌ {A = ℕ} (cond (is_to v o) 1 0) 0 = ap (λ b. cond b 1 0) other in
          let found = some-leads places v (omega (arith, some, tokens-cons o places v, nought)) in
          (suc found.0, found.1)
    ]

-- the token at one place goes on to another
abbrev pub move : ℕ → ℕ → Option ℕ → Option ℕ
move i j o = cond (is_to i o) (Some j) o

moved-one : (i j v : ℕ) (o : Option ℕ) → i ≢ j → v ≢ i
    → cond (is_to v (move i j o)) 1 0 ≡ cond (is_to v o) 1 0 + cond (j == v) (cond (is_to i o) 1 0) 0
moved-one i j v o apart other =
    elim (cases_Bool (is_to i o)) [
      | inl own ↦
          let is : o ≡ Some i = to-is i o own in
          let not-v : is_to v o ≡ false = ap (is_to v) is ∙ ne_eqb i v (λ same. other (sym same)) in
          ap (λ b. cond (is_to v (cond b (Some j) o)) 1 0) own
          ∙ (let e : (n : ℕ) → n ≡ 0 + n = λ n. omega arith in e (cond (j == v) 1 0))
          ∙ ap₂ (λ a b. cond a 1 0 + cond (j == v) (cond b 1 0) 0) (sym not-v) (sym own)
      | inr away ↦
          ap (λ b. cond (is_to v (cond b (Some j) o)) 1 0) away
          ∙ (let e : (n : ℕ) (b : Bool) → n ≡ n + cond b 0 0 = λ n b. elim b as (λ b. n ≡ n + cond b 0 0) [ true ↦ omega arith | false ↦ omega arith ] in e (cond (is_to v o) 1 0) (j == v))
          ∙ ap (λ b. cond (is_to v o) 1 0 + cond (j == v) (cond b 1 0) 0) (sym away)
    ]

pub tokens-moved : (places : List (Option ℕ)) (i j v : ℕ) → i ≢ j → v ≢ i
    → tokens (map (move i j) places) v ≡ tokens places v + cond (j == v) (tokens places i) 0
tokens-moved [] i j v apart other = elim (j == v) as (λ b. 0 ≡ 0 + cond b 0 0) [ true ↦ omega arith | false ↦ omega arith ]
tokens-moved (o ∷ places) i j v apart other =
    tokens-cons (move i j o) (map (move i j) places) v
    ∙ ap₂ (λ a b. a + b) (moved-one i j v o apart other) (tokens-moved places i j v apart other)
    ∙ shuffle (cond (is_to v o) 1 0) (tokens places v) (cond (is_to i o) 1 0) (tokens places i) (j == v)
    ∙ sym (ap₂ (λ a b. a + cond (j == v) b 0) (tokens-cons o places v) (tokens-cons o places i))
  where
    shuffle : (a b c d : ℕ) (t : Bool) → (a + cond t c 0) + (b + cond t d 0) ≡ (a + b) + cond t (c + d) 0
    shuffle a b c d true = omega arith
    shuffle a b c d false = omega arith

pub onto-map : (f : Option ℕ → Option ℕ) → f None ≡ None → (places : List (Option ℕ)) (r : ℕ) → onto (map f places) r ≡ f (onto places r)
onto-map f none [] r = sym none
onto-map f none (o ∷ places) zero = refl
onto-map f none (o ∷ places) (suc r) = onto-map f none places r

-- ---- counts of the first numbers

one-more : (q : ℕ → Bool) (n : ℕ) → count_by q (upto (suc n)) ≡ count_by q (upto n) + cond (q n) 1 0
one-more q n = sum_by_push (λ r. cond (q r) 1 0) (upto n) n

pub count-same : (p q : ℕ → Bool) (n : ℕ) → ((r : ℕ) → r < n → p r ≡ q r) → count_by p (upto n) ≡ count_by q (upto n)
count-same p q zero same = refl
count-same p q (suc n) same =
    one-more p n ∙ ap₂ (λ a b. a + cond b 1 0) (count-same p q n (λ r less. same r (omega (arith, less)))) (same n (omega arith)) ∙ sym (one-more q n)

tokens-first : (q : ℕ → Bool) (test : Option ℕ → Bool) (places : List (Option ℕ)) (n : ℕ) → n ≤ length places → ((r : ℕ) → r < n → q r ≡ test (onto places r))
    → count_by q (upto n) ≡ count_by test (take n places)
tokens-first q test places zero few same = refl
tokens-first q test places (suc n) few same =
    let here : n < length places = omega (arith, few) in
    let next : suc n ≡ n + 1 = omega arith in
    one-more q n
    ∙ ap₂ (λ a b. a + cond b 1 0) (tokens-first q test places n (omega (arith, few)) (λ r less. same r (omega (arith, less)))) (same n (omega arith))
    ∙ sym (ap (λ k. count_by test (take k places)) next ∙ sum_by_more (λ o. cond (test o) 1 0) places n None here)

-- a test of numbers, and the same of what is at their places
pub count-places : (q : ℕ → Bool) (test : Option ℕ → Bool) (places : List (Option ℕ)) (n : ℕ) → n ≡ length places → ((r : ℕ) → r < n → q r ≡ test (onto places r))
    → count_by q (upto n) ≡ count_by test places
count-places q test places n size same =
    tokens-first q test places n (omega (arith, size)) same ∙ ap (count_by test) (take_all n places (omega (arith, size)))

count-without : (q : ℕ → Bool) (v n : ℕ) → n ≤ v → count_by (λ r. q r && not (r == v)) (upto n) ≡ count_by q (upto n)
count-without q v n past = count-same (λ r. q r && not (r == v)) q n (λ r less. by (q r) (ne_eqb r v (λ is. omega (arith, less, past, is))))
  where
    by : (b : Bool) {c : Bool} → c ≡ false → (b && not c) ≡ b
    by b is = ap (λ d. b && not d) is ∙ elim b as (λ b. (b && true) ≡ b) [ true ↦ refl | false ↦ refl ]

-- all but one
pub count-but : (q : ℕ → Bool) (v n : ℕ) → v < n → q v ≡ true → count_by (λ r. q r && not (r == v)) (upto n) + 1 ≡ count_by q (upto n)
count-but q v zero less own = absurd (omega (arith, less))
count-but q v (suc n) less own =
    elim (cases_eq n v) [
      | inl same ↦
          let off : ◌≡◌ {A = ℕ} (cond (q n && not (n == v)) 1 0) 0 = ap (λ b. cond b 1 0) (ap (λ b. q n && not b) (eq-eqb n v same) ∙ elim (q n) as (λ b. (b && false) ≡ false) [ true ↦ refl | false ↦ refl ]) in
          let on : ◌≡◌ {A = ℕ} (cond (q n) 1 0) 1 = ap (λ b. cond b 1 0) (ap q same ∙ own) in
          omega (arith, one-more (λ r. q r && not (r == v)) n, one-more q n, off, on, count-without q v n (omega (arith, same)))
      | inr other ↦
          let same : ◌≡◌ {A = ℕ} (cond (q n && not (n == v)) 1 0) (cond (q n) 1 0) = ap (λ b. cond b 1 0) (ap (λ b. q n && not b) (ne_eqb n v other) ∙ elim (q n) as (λ b. (b && true) ≡ b) [ true ↦ refl | false ↦ refl ]) in
          omega (arith, one-more (λ r. q r && not (r == v)) n, one-more q n, same, count-but q v n (omega (arith, less, other)) own)
    ]

-- ---- counting where numbers lead

pub counted-none : (leads : List (Option ℕ)) (n : ℕ) → CountsTokens (take 0 leads) (replicate n 0) n
counted-none leads n = record { size = length-replicate n 0; each = λ v less. get_or-replicate n v 0 0 less }

pub tokens-more : (leads : List (Option ℕ)) (i v : ℕ) → i < length leads → tokens (take (i + 1) leads) v ≡ tokens (take i leads) v + cond (is_to v (onto leads i)) 1 0
tokens-more leads i v inside = sum_by_more (λ o. cond (is_to v o) 1 0) leads i None inside

pub counted-more : (leads : List (Option ℕ)) (old new : List ℕ) (i n : ℕ) → i < length leads → CountsTokens (take i leads) old n → CountsLead old new (onto leads i) → CountsTokens (take (i + 1) leads) new n
counted-more leads old new i n inside are one = record {
  size = one.size ∙ are.size;
  each = λ v less. one.each v ∙ ap (λ k. k + cond (is_to v (onto leads i)) 1 0) (are.each v less) ∙ sym (tokens-more leads i v inside);
}

-- a count is no more than how many were counted
pub counted-fits : (leads : List (Option ℕ)) (counts : List ℕ) (i n : ℕ) → i < length leads → CountsTokens (take i leads) counts n → (v : ℕ) → v < n → slice_index counts v + 1 ≤ length leads
counted-fits leads counts i n inside are v less =
    omega (arith, are.each v less, count_by-le-length (is_to v) (take i leads), length-take i leads)

pub count-one : (old : List ℕ) (w x : ℕ) → w < length old → x ≡ slice_index old w → CountsLead old (slice_set old w (x + 1)) (Some w)
count-one old w x inside is = record { size = length-set old w (x + 1); each = each }
  where
    each : (v : ℕ) → slice_index (slice_set old w (x + 1)) v ≡ slice_index old v + cond (is_to v (Some w)) 1 0
    each v =
        elim (cases_eq v w) [
          | inl same ↦
              ap (slice_index (slice_set old w (x + 1))) same ∙ get_or-set_same old w (x + 1) 0 inside ∙ ap (λ k. k + 1) (is ∙ ap (slice_index old) (sym same))
              ∙ ap (λ b. slice_index old v + cond b 1 0) (sym (eq-eqb w v (sym same)))
          | inr other ↦
              get_or-set_other old w v (x + 1) 0 other ∙ (let e : slice_index old v ≡ slice_index old v + 0 = omega arith in e)
              ∙ ap (λ b. slice_index old v + cond b 1 0) (sym (ne_eqb w v (λ same. other (sym same))))
        ]

pub count-none : (old : List ℕ) → CountsLead old old None
count-none old = record { size = refl; each = λ v. omega arith }
