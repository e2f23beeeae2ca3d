-- What is told of each number once all are peeled off that can be, and one circle after another is taken.
use Rattle.std.proofs.Common.{◌≡◌, ℕ, ◌+◌, ◌<◌, ◌≤◌, ◌⊎◌, inl, inr, Bool, true, false, List, [], ◌∷◌, length, Option, None, Some, refl, sym, ◌∙◌, ap, subst, arith, sum_by}
use Rattle.std.specs.Prelude.{if◌then◌else◌, nat_le, option_and_then, slice_index}
use Rattle.std.specs.List.{list_all}
use Rattle.std.proofs.lemmas.Bool.{cases_Bool, cases_lt, false≢true, leb-true, le-leb, and_from, and_parts}
use Rattle.std.proofs.lemmas.List.{get_or_past}
use Rattle.wait_circles.specs.Steps.{way_within}
use Rattle.wait_circles.specs.Circles.{circle_from}
use Rattle.wait_circles.specs.Inner.Leading.{onto, tokens, Comes, all_to}
use Rattle.wait_circles.specs.Inner.Meeting.{here, is_on, later}
use Rattle.wait_circles.specs.Inner.Peeling.{IsGone, IsPeeling, IsPeeledUpto}
use Rattle.wait_circles.specs.Inner.Telling.{IsRing, IsTelling, TakesRing}
use Rattle.wait_circles.proofs.LeadFacts.{no-some, onto-below, first-step, some-leads}
use Rattle.wait_circles.proofs.PeelFacts.{gone-or-left, told-there, no-circle-there}
use Rattle.wait_circles.proofs.ChainFacts.{LeadsTo, all-come, chain-way, comes-home, on-cases, on-more, on-own, stays-on, way-chain}
use Rattle.wait_circles.proofs.RingFacts.{on-ring, ring-few, ring-sum}

none-or-some : (o : Option ℕ) → (o ≡ None) ⊎ ((w : ℕ) × (o ≡ Some w))
none-or-some None = inl refl
none-or-some (Some w) = inr (w, refl)

-- ---- all are peeled off that can be

module _ (leads left : List (Option ℕ)) (counts incoming : List ℕ) (p : IsPeeling leads left counts incoming) (n : ℕ) (all : length leads ≤ n) (upto : IsPeeledUpto left n n) where
  none-left : (v : ℕ) → tokens left v ≡ 0 → onto left v ≡ None
  none-left v none =
      elim (cases_lt v (length left)) [
        | inl less ↦ upto.each v (omega (arith, less, all, p.left_size)) (λ same. omega (arith, less, all, p.left_size, same)) none
        | inr past ↦ get_or_past left v None past
      ]

  fed : (v w : ℕ) → onto left v ≡ Some w → 0 < tokens left v
  fed v w at = elim (cases_lt 0 (tokens left v)) [ inl some ↦ some | inr none ↦ absurd (no-some w (sym (none-left v (omega (arith, none))) ∙ at)) ]

  led-by : (v w : ℕ) → onto left v ≡ Some w → onto leads v ≡ Some w
  led-by v w at = elim (p.part v) [ inl whole ↦ sym whole ∙ at | inr gone ↦ absurd (no-some w (sym gone ∙ at)) ]

  ring-of : (v w : ℕ) → onto left v ≡ Some w → (rest : List ℕ) × IsRing leads v rest
  ring-of = on-ring leads left led-by fed

  -- none that is left leads to a number that leads nowhere
  none-to : (v : ℕ) → onto left v ≡ None → (IsGone leads left v → ⊥) → tokens left v ≡ 0
  none-to v none over =
      elim (cases_lt 0 (tokens left v)) [
        | inl some ↦
            let before = some-leads left v some in
            let ring = ring-of before.0 v before.1 in
            let itself = all-come (onto leads) before.0 ring.0 ring.1.chain before.0 before.0 (on-own before.0 ring.0) (on-own before.0 ring.0) in
            absurd (elim (first-step leads before.0 before.0 v (led-by before.0 v before.1) itself) [
              | inl same ↦ no-some v (sym none ∙ ap (onto left) (sym same) ∙ before.1)
              | inr come ↦ goes-on before.0 come
            ])
        | inr few ↦ omega (arith, few)
      ]
    where
      goes-on : (s : ℕ) → Comes leads v s → ⊥
      goes-on s (here _ is) = over (record { to = s; led = is; gone = none })
      goes-on s (later _ t at more) = over (record { to = t; led = at; gone = none })

  told : (v : ℕ) → v < length counts → onto left v ≡ None → slice_index counts v ≡ all_to leads v
  told v inside none =
      elim (gone-or-left leads left v) [
        | inl gone ↦ p.at_gone v inside gone
        | inr over ↦ told-there leads left counts incoming p v (none-to v none over) inside (inr over)
      ]

  on-none : (v : ℕ) → onto left v ≡ None → Comes leads v v → ⊥
  on-none v none come =
      elim (gone-or-left leads left v) [
        | inl gone ↦ p.no_circle v gone come
        | inr over ↦ no-circle-there leads left counts incoming p v (none-to v none over) (inr over) come
      ]

  pub telling-first : IsTelling leads left counts 0
  telling-first = record {
    places = p.places;
    left_size = p.left_size;
    places_size = p.places_size;
    enough = p.enough;
    within = p.within;
    at_told = told;
    at_left = λ v w at. p.at_left v (omega (arith, onto-below left v w at, p.left_size, p.enough)) (λ (g : IsGone leads left v). no-some w (sym g.gone ∙ at));
    led = led-by;
    ring = ring-of;
    closed = λ v w come none at. absurd (on-none v none come);
    earlier = λ v none come. absurd (on-none v none come);
    passed = λ s less. absurd (omega (arith, less));
    sums = λ v s rest ring on. ring-sum leads left counts incoming p ring-of v rest ring s on;
  }

-- ---- one number after another

below-cases : (s below : ℕ) → s < below + 1 → (s < below) ⊎ (s ≡ below)
below-cases s below less = elim (cases_lt s below) [ inl before ↦ inl before | inr past ↦ inr (omega (arith, past, less)) ]

-- a number that leads nowhere begins no circle
pub telling-none : (leads left : List (Option ℕ)) (counts : List ℕ) (below : ℕ) → IsTelling leads left counts below → onto left below ≡ None → IsTelling leads left counts (below + 1)
telling-none leads left counts below t none = record {
  places = t.places;
  left_size = t.left_size;
  places_size = t.places_size;
  enough = t.enough;
  within = t.within;
  at_told = t.at_told;
  at_left = t.at_left;
  led = t.led;
  ring = t.ring;
  closed = t.closed;
  earlier = λ v is come. let e = t.earlier v is come in (e.0, omega (arith, e.1), e.2);
  passed = λ s less. elim (below-cases s below less) [ inl before ↦ t.passed s before | inr same ↦ ap (onto left) same ∙ none ];
  sums = t.sums;
}

list-all-false : (r s : ℕ) (way : List ℕ) → is_on s way ≡ true → s < r → list_all (nat_le r) way ≡ true → ⊥
list-all-false r s [] on less all = false≢true on
list-all-false r s (c ∷ way) on less all =
    let parts = and_parts (nat_le r c) (list_all (nat_le r) way) all in
    elim (on-cases s c way on) [
      | inl same ↦ (let most : r ≤ c = leb-true r c parts.0 in omega (arith, most, less, same))
      | inr more ↦ list-all-false r s way more less parts.1
    ]

pub circle-none : (leads left : List (Option ℕ)) (counts : List ℕ) (count r : ℕ) → IsTelling leads left counts r → onto left r ≡ None → circle_from (onto leads) count r ≡ None
circle-none leads left counts count r t none = by (way_within (onto leads) r count r) refl
  where
    tested : (way : List ℕ) (b : Bool) → list_all (nat_le r) way ≡ b → (list_all (nat_le r) way ≡ true → ⊥) → (if b then Some way else None) ≡ None
    tested way true is never = absurd (never is)
    tested way false is never = refl

    by : (o : Option (List ℕ)) → way_within (onto leads) r count r ≡ o → option_and_then (λ way. if list_all (nat_le r) way then Some way else None) o ≡ None
    by None is = refl
    by (Some way) is =
        let home = way-chain (onto leads) r count r way is in
        let itself = comes-home (onto leads) r r r home.rest home.chain (on-own r home.rest) in
        let first = t.earlier r none itself in
        let on = stays-on (onto leads) r home.rest home.chain first.0 r (on-own r home.rest) first.2 in
        tested way (list_all (nat_le r) way) refl (list-all-false r first.0 way (subst (λ l. is_on first.0 l ≡ true) (sym home.is) on) first.1)

-- ---- a circle

-- the numbers of a circle are left together
chain-gone : (leads left : List (Option ℕ)) (home : ℕ) → ((v w : ℕ) → Comes leads v v → onto left v ≡ None → onto leads v ≡ Some w → onto left w ≡ None)
    → (h : ℕ) (rest : List ℕ) → LeadsTo (onto leads) home (h ∷ rest) → ((c : ℕ) → is_on c (h ∷ rest) ≡ true → Comes leads c c) → (c : ℕ) → is_on c (h ∷ rest) ≡ true → onto left c ≡ None → onto left home ≡ None
chain-gone leads left home closed h [] chain itself c on none =
    elim (on-cases c h [] on) [
      | inl same ↦ closed h home (itself h (on-own h [])) (ap (onto left) (sym same) ∙ none) chain
      | inr past ↦ absurd (false≢true past)
    ]
chain-gone leads left home closed h (s ∷ rest) chain itself c on none =
    elim (on-cases c h (s ∷ rest) on) [
      | inl same ↦ chain-gone leads left home closed s rest chain.1 (λ q qon. itself q (on-more q h (s ∷ rest) qon)) s (on-own s rest) (closed h s (itself h (on-own h (s ∷ rest))) (ap (onto left) (sym same) ∙ none) chain.0)
      | inr more ↦ chain-gone leads left home closed s rest chain.1 (λ q qon. itself q (on-more q h (s ∷ rest) qon)) c more none
    ]

module _ (leads left : List (Option ℕ)) (counts : List ℕ) (r : ℕ) (t : IsTelling leads left counts r) (w : ℕ) (at : onto left r ≡ Some w)
    (rest : List ℕ) (ring : IsRing leads r rest) where
  -- each number of the circle is left
  pub ring-left : (c : ℕ) → is_on c (r ∷ rest) ≡ true → (x : ℕ) × (onto left c ≡ Some x) × (onto leads c ≡ Some x)
  ring-left c on =
      elim (none-or-some (onto left c)) [
        | inl none ↦ absurd (no-some w (sym (chain-gone leads left r t.closed r rest ring.chain (λ q qon. all-come (onto leads) r rest ring.chain q q qon qon) c on none) ∙ at))
        | inr some ↦ (some.0, some.1, t.led c some.0 some.1)
      ]

  -- none is less than the first
  least : (vs : List ℕ) → ((c : ℕ) → is_on c vs ≡ true → is_on c (r ∷ rest) ≡ true) → list_all (nat_le r) vs ≡ true
  least [] part = refl
  least (c ∷ vs) part =
      and_from (nat_le r c) (list_all (nat_le r) vs)
      (elim (cases_lt c r) [
        | inl less ↦ (let there = ring-left c (part c (on-own c vs)) in absurd (no-some there.0 (sym (t.passed c less) ∙ there.1)))
        | inr more ↦ le-leb r c more
      ])
      (least vs (λ q on. part q (on-more q c vs on)))

  pub circle-some : (count : ℕ) → ((u v : ℕ) → onto leads u ≡ Some v → u < count) → circle_from (onto leads) count r ≡ Some (r ∷ rest)
  circle-some count below =
      ap (option_and_then (λ way. if list_all (nat_le r) way then Some way else None)) (chain-way (onto leads) r r rest count ring.chain ring.once.0 (ring-few leads count r rest below ring))
      ∙ ap (λ b. if b then Some (r ∷ rest) else None) (least (r ∷ rest) (λ c on. on))

  -- the circle was taken
  pub telling-taken : (left' : List (Option ℕ)) (counts' : List ℕ) → TakesRing left left' counts counts' (r ∷ rest) (sum_by (tokens t.places) (r ∷ rest)) → IsTelling leads left' counts' (r + 1)
  telling-taken left' counts' took = record {
    places = t.places;
    left_size = took.left_size ∙ t.left_size;
    places_size = t.places_size;
    enough = omega (arith, t.enough, took.counts_size);
    within = λ u v is. omega (arith, t.within u v is, took.counts_size);
    at_told = λ v inside none.
        elim (cases_Bool (is_on v (r ∷ rest))) [
          | inl on ↦ omega (arith, took.told v on, t.sums r v rest ring on)
          | inr off ↦ took.counts_out v off ∙ t.at_told v (omega (arith, inside, took.counts_size)) (sym (took.left_out v off) ∙ none)
        ];
    at_left = λ v x is.
        elim (cases_Bool (is_on v (r ∷ rest))) [
          | inl on ↦ absurd (no-some x (sym (took.gone v on) ∙ is))
          | inr off ↦ took.counts_out v off ∙ t.at_left v x (sym (took.left_out v off) ∙ is)
        ];
    led = λ v x is. t.led v x (was v x is);
    ring = λ v x is. t.ring v x (was v x is);
    closed = λ v x come none is.
        elim (cases_Bool (is_on v (r ∷ rest))) [
          | inl on ↦ took.gone x (stays-on (onto leads) r rest ring.chain x v on (here v is))
          | inr off ↦ still x (t.closed v x come (sym (took.left_out v off) ∙ none) is)
        ];
    earlier = λ v none come.
        elim (cases_Bool (is_on v (r ∷ rest))) [
          | inl on ↦ (r, omega arith, comes-home (onto leads) r v r rest ring.chain on)
          | inr off ↦ let e = t.earlier v (sym (took.left_out v off) ∙ none) come in (e.0, omega (arith, e.1), e.2)
        ];
    passed = λ s less.
        elim (below-cases s r less) [
          | inl before ↦ still s (t.passed s before)
          | inr same ↦ ap (onto left') same ∙ took.gone r (on-own r rest)
        ];
    sums = t.sums;
  }
    where
      was : (v x : ℕ) → onto left' v ≡ Some x → onto left v ≡ Some x
      was v x is =
          elim (cases_Bool (is_on v (r ∷ rest))) [
            | inl on ↦ absurd (no-some x (sym (took.gone v on) ∙ is))
            | inr off ↦ sym (took.left_out v off) ∙ is
          ]

      still : (v : ℕ) → onto left v ≡ None → onto left' v ≡ None
      still v none =
          elim (cases_Bool (is_on v (r ∷ rest))) [
            | inl on ↦ took.gone v on
            | inr off ↦ took.left_out v off ∙ none
          ]
