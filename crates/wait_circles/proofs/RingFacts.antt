-- Circles of numbers that lead to others, and how many come to them.
use Rattle.std.proofs.Common.{◌≡◌, ℕ, zero, suc, ◌+◌, ◌<◌, ◌≤◌, inl, inr, Bool, true, false, cond, ◌||◌, List, [], ◌∷◌, length, Option, None, Some, refl, sym, ◌∙◌, ap, ap₂, subst, arith, count_by, sum_by}
use Rattle.std.specs.Option.{option_map_or}
use Rattle.std.proofs.lemmas.Bool.{cases_Bool, cases_eq, eq-eqb, ne_eqb, false≢true}
use Rattle.std.proofs.lemmas.List.Sums.{sum_by-cons}
use Rattle.dump_io.specs.Laws.Lists.{same-bools}
use Rattle.wait_circles.specs.Inner.Leading.{onto, is_to, tokens, Comes, reaches, all_to}
use Rattle.wait_circles.specs.Inner.Meeting.{IsOnce, is_on}
use Rattle.wait_circles.specs.Inner.Peeling.{IsGone, IsPeeling}
use Rattle.wait_circles.specs.Inner.Telling.{IsRing}
use Rattle.wait_circles.proofs.ChainFacts.{LeadsTo, all-come, comes-home, next-on, on-own, stays-on}
use Rattle.wait_circles.proofs.MeetFacts.{chain-below, comes-from, comes-then, few-below}
use Rattle.wait_circles.proofs.LeadFacts.{onto-below, comes-below, reaches-comes, comes-reaches, some-leads, count-places, count-but}

-- a circle has no more numbers than there are
pub ring-few : (leads : List (Option ℕ)) (count home : ℕ) (rest : List ℕ) → ((u v : ℕ) → onto leads u ≡ Some v → u < count) → IsRing leads home rest → length (home ∷ rest) ≤ count
ring-few leads count home rest below ring =
    few-below (home ∷ rest) count ring.once (chain-below (onto leads) (λ u. onto leads u ≡ Some home) count below (λ u at. below u home at) (home ∷ rest) ring.chain)

-- ---- where each number has one that leads to it, each is on a circle

module _ (leads left : List (Option ℕ)) (led : (v w : ℕ) → onto left v ≡ Some w → onto leads v ≡ Some w)
    (fed : (v w : ℕ) → onto left v ≡ Some w → 0 < tokens left v) where
  grow : (v fuel h : ℕ) (rest : List ℕ) → length (h ∷ rest) + fuel ≡ length leads + 1 → LeadsTo (onto leads) v (h ∷ rest) → IsOnce (h ∷ rest) → (w : ℕ) → onto left h ≡ Some w
      → (tail : List ℕ) × IsRing leads v tail
  grow v zero h rest size chain once w at =
      let few : length (h ∷ rest) ≤ length leads =
      few-below (h ∷ rest) (length leads) once (chain-below (onto leads) (λ u. onto leads u ≡ Some v) (length leads) (onto-below leads) (λ u is. onto-below leads u v is) (h ∷ rest) chain) in
      absurd (omega (arith, size, few))
  grow v (suc fuel) h rest size chain once w at =
      let before = some-leads left h (fed h w at) in
      let leading : onto leads before.0 ≡ Some h = led before.0 h before.1 in
      elim (cases_Bool (is_on before.0 (h ∷ rest))) [
        | inl on ↦ elim (next-on (onto leads) v before.0 h h rest chain on leading) [
          | inl again ↦ absurd (false≢true (sym once.0 ∙ again))
          | inr end ↦ (rest, record { chain = subst (λ k. LeadsTo (onto leads) v (k ∷ rest)) end chain; once = subst (λ k. IsOnce (k ∷ rest)) end once })
        ]
        | inr off ↦ grow v fuel before.0 (h ∷ rest) (omega (arith, size)) (leading, chain) (off, once) h before.1
      ]

  pub on-ring : (v w : ℕ) → onto left v ≡ Some w → (tail : List ℕ) × IsRing leads v tail
  on-ring v w at =
      let before = some-leads left v (fed v w at) in
      grow v (length leads) before.0 [] (omega arith) (led before.0 v before.1) (refl, tt) v before.1

-- ---- tokens on a circle

abbrev in-ring : List ℕ → Option ℕ → Bool
in-ring vs o = option_map_or (λ v. is_on v vs) o false

no-tokens : (places : List (Option ℕ)) → count_by (in-ring []) places ≡ 0
no-tokens [] = refl
no-tokens (None ∷ places) = omega (arith, sum_by-cons (λ o. cond (in-ring [] o) 1 0) None places, no-tokens places)
no-tokens (Some v ∷ places) = omega (arith, sum_by-cons (λ o. cond (in-ring [] o) 1 0) (Some v) places, no-tokens places)

-- the number is this one, or one of the others, and not both
one-or-other : (c : ℕ) (cs : List ℕ) → is_on c cs ≡ false → (o : Option ℕ) → cond (in-ring (c ∷ cs) o) 1 0 ≡ cond (is_to c o) 1 0 + cond (in-ring cs o) 1 0
one-or-other c cs off None = omega arith
one-or-other c cs off (Some v) =
    elim (cases_eq v c) [
      | inl same ↦
          let out : is_on v cs ≡ false = ap (λ k. is_on k cs) same ∙ off in
          ap (λ b. cond (b || is_on v cs) 1 0) (eq-eqb v c same) ∙ sym (ap₂ (λ a b. cond a 1 0 + cond b 1 0) (eq-eqb v c same) out)
      | inr other ↦
          ap (λ b. cond (b || is_on v cs) 1 0) (ne_eqb v c other) ∙ (let e : (n : ℕ) → n ≡ 0 + n = λ n. omega arith in e (cond (is_on v cs) 1 0))
          ∙ sym (ap (λ a. cond a 1 0 + cond (is_on v cs) 1 0) (ne_eqb v c other))
    ]

tokens-apart : (c : ℕ) (cs : List ℕ) → is_on c cs ≡ false → (places : List (Option ℕ)) → count_by (in-ring (c ∷ cs)) places ≡ tokens places c + count_by (in-ring cs) places
tokens-apart c cs off [] = refl
tokens-apart c cs off (o ∷ places) =
    let all = sum_by-cons (λ o. cond (in-ring (c ∷ cs) o) 1 0) o places in
    let own = sum_by-cons (λ o. cond (is_to c o) 1 0) o places in
    let others = sum_by-cons (λ o. cond (in-ring cs o) 1 0) o places in
    omega (arith, all, own, others, one-or-other c cs off o, tokens-apart c cs off places)

-- the tokens at numbers that differ, together
pub tokens-together : (places : List (Option ℕ)) (cs : List ℕ) → IsOnce cs → count_by (in-ring cs) places ≡ sum_by (tokens places) cs
tokens-together places [] once = no-tokens places
tokens-together places (c ∷ cs) once =
    tokens-apart c cs once.0 places ∙ ap (λ n. tokens places c + n) (tokens-together places cs once.1) ∙ sym (sum_by-cons (tokens places) c cs)

-- ---- how many come to each number of a circle

module _ (leads left : List (Option ℕ)) (counts incoming : List ℕ) (p : IsPeeling leads left counts incoming)
    (ring-of : (v w : ℕ) → onto left v ≡ Some w → (rest : List ℕ) × IsRing leads v rest)
    (v : ℕ) (rest : List ℕ) (ring : IsRing leads v rest) where
  comes-itself : (c : ℕ) → is_on c (v ∷ rest) ≡ true → Comes leads c c
  comes-itself c on = all-come (onto leads) v rest ring.chain c c on on

  -- a number that is left, and comes to the circle, is on it
  left-on : (q : ℕ) → (IsGone leads left q → ⊥) → Comes leads q v → is_on q (v ∷ rest) ≡ true
  left-on q over come =
      let step = comes-from (onto leads) v q come in
      elim (p.part q) [
        | inl whole ↦
            let own = ring-of q step.0 (whole ∙ step.1) in
            let on-own-ring = stays-on (onto leads) q own.0 own.1.chain v q (on-own q own.0) come in
            stays-on (onto leads) v rest ring.chain q v (on-own v rest) (comes-home (onto leads) q v q own.0 own.1.chain on-own-ring)
        | inr gone ↦ absurd (over (record { to = step.0; led = step.1; gone = gone }))
      ]

  -- the token of a number that comes to the circle lies on it
  lies-on : (r : ℕ) → Comes leads r v → in-ring (v ∷ rest) (onto p.places r) ≡ true
  lies-on r come =
      elim (p.complete r v come) [
        | inl gone ↦ absurd (p.no_circle v gone (comes-itself v (on-own v rest)))
        | inr other ↦ elim other [
          | inl lies ↦ ap (in-ring (v ∷ rest)) lies ∙ on-own v rest
          | inr further ↦ ap (in-ring (v ∷ rest)) further.1 ∙ left-on further.0 (p.stay r further.0 further.1) further.2
        ]
      ]

  -- one whose token lies on the circle comes to each of its numbers
  from-ring : (s r : ℕ) → is_on s (v ∷ rest) ≡ true → (o : Option ℕ) → onto p.places r ≡ o → in-ring (v ∷ rest) o ≡ true → Comes leads r s
  from-ring s r on None at is = absurd (false≢true is)
  from-ring s r on (Some q) at is = comes-then (onto leads) q s r (p.sound r q at) (all-come (onto leads) v rest ring.chain q s is on)

  test-same : (s r : ℕ) → is_on s (v ∷ rest) ≡ true → reaches leads s r ≡ in-ring (v ∷ rest) (onto p.places r)
  test-same s r on =
      same-bools (reaches leads s r) (in-ring (v ∷ rest) (onto p.places r))
      (λ is. lies-on r (comes-then (onto leads) s v r (reaches-comes leads s r is) (all-come (onto leads) v rest ring.chain s v on (on-own v rest))))
      (λ is. comes-reaches leads s r (from-ring s r on (onto p.places r) refl is))

  -- as many come to each, and itself, as tokens lie on the circle
  pub ring-sum : (s : ℕ) → is_on s (v ∷ rest) ≡ true → all_to leads s + 1 ≡ sum_by (tokens p.places) (v ∷ rest)
  ring-sum s on =
      let itself = comes-itself s on in
      count-but (reaches leads s) s (length leads) (comes-below leads s s itself) (comes-reaches leads s s itself)
      ∙ count-places (reaches leads s) (in-ring (v ∷ rest)) p.places (length leads) (sym p.places_size) (λ r less. test-same s r on)
      ∙ tokens-together p.places (v ∷ rest) ring.once
