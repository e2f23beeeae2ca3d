-- Peeling off one number, and what is told of those to which none leads.
use Rattle.std.proofs.Common.{◌≡◌, ◌≢◌, ℕ, ◌+◌, ◌-◌, ◌<◌, ◌≤◌, ◌==◌, ◌⊎◌, inl, inr, cond, not, ◌&&◌, List, length, set, map, Option, None, Some, refl, sym, ◌∙◌, ap, ap₂, subst, arith, count_by, is_some}
use Rattle.std.specs.Prelude.{slice_index, slice_set}
use Rattle.std.proofs.lemmas.Bool.{cases_Bool, cases_eq, eq-eqb, ne_eqb, false≢true, and_parts, and_from}
use Rattle.std.proofs.lemmas.List.{get_or-set_same, get_or-set_other, length-map, length-set}
use Rattle.std.proofs.lemmas.List.Sums.{count_by-le-length, sum_by-set}
use Rattle.dump_io.specs.Laws.Lists.{same-bools}
use Rattle.wait_circles.specs.Steps.{upto}
use Rattle.wait_circles.specs.Inner.Leading.{onto, is_to, tokens, Comes, CountsTokens, LeadWithin, reaches, all_to}
use Rattle.wait_circles.specs.Inner.Meeting.{here, later}
use Rattle.wait_circles.specs.Inner.Peeling.{ArePeeling, IsGone, IsPeeling, IsPeeledUpto}
use Rattle.wait_circles.specs.declared.tokens.Tokens.{Tokens}
use Rattle.wait_circles.proofs.LeadFacts.{no-some, to-is, is-to, onto-below, last-step, first-step, reaches-comes, comes-reaches, token-counts, none-leads, move, tokens-moved, onto-map, count-places}
use Rattle.wait_circles.proofs.MeetFacts.{comes-then}

-- what comes to a number that is gone is gone
pub gone-back : (leads left : List (Option ℕ)) (v : ℕ) → ((u w : ℕ) → onto leads u ≡ Some w → IsGone leads left w → IsGone leads left u)
    → IsGone leads left v → (r : ℕ) → Comes leads r v → IsGone leads left r
gone-back leads left v back gone _ (here r is) = back r v is gone
gone-back leads left v back gone _ (later r s at rest) = back r s at (gone-back leads left v back gone s rest)

-- ---- a number to which none leads any more

module _ (leads left : List (Option ℕ)) (counts incoming : List ℕ) (p : IsPeeling leads left counts incoming) (v : ℕ) (none : tokens left v ≡ 0) where
  pub before-gone : (u : ℕ) → onto leads u ≡ Some v → IsGone leads left u
  before-gone u led =
      elim (p.part u) [
        | inl same ↦ absurd (none-leads left u v none (same ∙ led))
        | inr gone ↦ record { to = v; led = led; gone = gone }
      ]

  -- what comes there through another number is gone
  pub comes-gone : (r : ℕ) → Comes leads r v → IsGone leads left r
  comes-gone r come =
      let last = last-step leads v r come in
      elim last.2 [
        | inl same ↦ subst (IsGone leads left) same (before-gone last.0 last.1)
        | inr more ↦ gone-back leads left last.0 p.backward (before-gone last.0 last.1) r more
      ]

  -- the tokens of those that come there lie there
  pub lies-there : (r : ℕ) → (IsGone leads left v → ⊥) → Comes leads r v → onto p.places r ≡ Some v
  lies-there r left-over come =
      elim (p.complete r v come) [
        | inl gone ↦ absurd (left-over gone)
        | inr other ↦ elim other [
          | inl lies ↦ lies
          | inr further ↦ absurd (p.stay r further.0 further.1 (comes-gone further.0 further.2))
        ]
      ]

  pub not-itself : (IsGone leads left v → ⊥) → Comes leads v v → ⊥
  not-itself left-over come = left-over (comes-gone v come)

  comes-test : (IsGone leads left v → ⊥) → (r : ℕ) → (reaches leads v r && not (r == v)) ≡ is_to v (onto p.places r)
  comes-test left-over r =
      same-bools (reaches leads v r && not (r == v)) (is_to v (onto p.places r))
      (λ both. is-to v (onto p.places r) (lies-there r left-over (reaches-comes leads v r (and_parts (reaches leads v r) (not (r == v)) both).0)))
      (λ lies.
      let come = p.sound r v (to-is v (onto p.places r) lies) in
      and_from (reaches leads v r) (not (r == v)) (comes-reaches leads v r come)
      (ap not (ne_eqb r v (λ same. not-itself left-over (subst (λ k. Comes leads k v) same come)))))

  -- as many tokens lie there as others come there
  pub tokens-all : (IsGone leads left v → ⊥) → tokens p.places v ≡ all_to leads v
  tokens-all left-over =
      sym (count-places (λ r. reaches leads v r && not (r == v)) (is_to v) p.places (length leads) (sym p.places_size) (λ r less. comes-test left-over r))

  pub told-there : v < length counts → ((IsGone leads left v) ⊎ (IsGone leads left v → ⊥)) → slice_index counts v ≡ all_to leads v
  told-there inside (inl gone) = p.at_gone v inside gone
  told-there inside (inr left-over) = p.at_left v inside left-over ∙ tokens-all left-over

  pub no-circle-there : ((IsGone leads left v) ⊎ (IsGone leads left v → ⊥)) → Comes leads v v → ⊥
  no-circle-there (inl gone) = p.no_circle v gone
  no-circle-there (inr left-over) = not-itself left-over

-- whether a number is gone
pub gone-or-left : (leads left : List (Option ℕ)) (v : ℕ) → (IsGone leads left v) ⊎ (IsGone leads left v → ⊥)
gone-or-left leads left v = by (onto leads v) refl (onto left v) refl
  where
    by : (a : Option ℕ) → onto leads v ≡ a → (b : Option ℕ) → onto left v ≡ b → (IsGone leads left v) ⊎ (IsGone leads left v → ⊥)
    by None led b is = inr (λ (g : IsGone leads left v). no-some g.to (sym led ∙ g.led))
    by (Some w) led None is = inl (record { to = w; led = led; gone = is })
    by (Some w) led (Some x) is = inr (λ (g : IsGone leads left v). no-some x (sym g.gone ∙ is))

-- ---- one number is peeled off

onto-set : (left : List (Option ℕ)) (i v : ℕ) → v ≢ i → onto (set left i None) v ≡ onto left v
onto-set left i v other = get_or-set_other left i v None None other

module _ (leads left : List (Option ℕ)) (counts incoming : List ℕ) (p : IsPeeling leads left counts incoming) (i j : ℕ)
    (at : onto left i ≡ Some j) (none : tokens left i ≡ 0) where
  inside : i < length left
  inside = onto-below left i j at

  led : onto leads i ≡ Some j
  led = elim (p.part i) [ inl same ↦ sym same ∙ at | inr gone ↦ absurd (no-some j (sym gone ∙ at)) ]

  left-here : IsGone leads left i → ⊥
  left-here gone = no-some j (sym gone.gone ∙ at)

  pub next-left : IsGone leads left j → ⊥
  next-left gone = left-here (p.backward i j led gone)

  pub apart : i ≢ j
  apart same = none-leads left i i none (at ∙ ap Some (sym same))

  gone-here : IsGone leads (slice_set left i None) i
  gone-here = record { to = j; led = led; gone = get_or-set_same left i None None inside }

  gone-still : (v : ℕ) → IsGone leads left v → IsGone leads (slice_set left i None) v
  gone-still v gone = record { to = gone.to; led = gone.led; gone = onto-set left i v (λ same. left-here (subst (IsGone leads left) same gone)) ∙ gone.gone }

  pub gone-before : (v : ℕ) → IsGone leads (slice_set left i None) v → (v ≡ i) ⊎ IsGone leads left v
  gone-before v gone =
      elim (cases_eq v i) [
        | inl same ↦ inl same
        | inr other ↦ inr (record { to = gone.to; led = gone.led; gone = sym (onto-set left i v other) ∙ gone.gone })
      ]

  moved : (r : ℕ) → onto (map (move i j) p.places) r ≡ move i j (onto p.places r)
  moved r = onto-map (move i j) refl p.places r

  -- where a token lies that lay here, and one that lay elsewhere
  moved-here : (r : ℕ) → onto p.places r ≡ Some i → onto (map (move i j) p.places) r ≡ Some j
  moved-here r lay = moved r ∙ ap (λ b. cond b (Some j) (onto p.places r)) (is-to i (onto p.places r) lay)

  moved-not : (r v : ℕ) → v ≢ i → onto p.places r ≡ Some v → onto (map (move i j) p.places) r ≡ Some v
  moved-not r v other lay = moved r ∙ ap (λ b. cond b (Some j) (onto p.places r)) (ap (is_to i) lay ∙ ne_eqb v i other) ∙ lay

  -- where a token lies now, it lay before, unless it went on
  moved-from : (r v : ℕ) → onto (map (move i j) p.places) r ≡ Some v → ((onto p.places r ≡ Some i) × (v ≡ j)) ⊎ ((onto p.places r ≡ Some v) × (v ≢ i))
  moved-from r v lies =
      elim (cases_Bool (is_to i (onto p.places r))) [
        | inl own ↦
            let lay = to-is i (onto p.places r) own in
            inl (lay, (let e : Some v ≡ Some j = sym lies ∙ moved-here r lay in cc))
        | inr other ↦
            let lay : onto p.places r ≡ Some v = sym (ap (λ b. cond b (Some j) (onto p.places r)) other) ∙ sym (moved r) ∙ lies in
            inr (lay, λ same. false≢true (sym other ∙ is-to i (onto p.places r) (lay ∙ ap Some same)))
      ]

  new-part : (v : ℕ) → (onto (slice_set left i None) v ≡ onto leads v) ⊎ (onto (slice_set left i None) v ≡ None)
  new-part v =
      elim (cases_eq v i) [
        | inl same ↦ inr (ap (onto (slice_set left i None)) same ∙ get_or-set_same left i None None inside)
        | inr other ↦ elim (p.part v) [ inl whole ↦ inl (onto-set left i v other ∙ whole) | inr gone ↦ inr (onto-set left i v other ∙ gone) ]
      ]

  new-sound : (r v : ℕ) → onto (map (move i j) p.places) r ≡ Some v → Comes leads r v
  new-sound r v lies =
      elim (moved-from r v lies) [
        | inl on ↦ subst (Comes leads r) (sym on.1) (comes-then (onto leads) i j r (p.sound r i on.0) (here i led))
        | inr same ↦ p.sound r v same.0
      ]

  new-complete : (r v : ℕ) → Comes leads r v
      → IsGone leads (slice_set left i None) v ⊎ (onto (map (move i j) p.places) r ≡ Some v) ⊎ ((q : ℕ) × (onto (map (move i j) p.places) r ≡ Some q) × Comes leads q v)
  new-complete r v come =
      elim (p.complete r v come) [
        | inl gone ↦ inl (gone-still v gone)
        | inr other ↦ elim other [
          | inl lies ↦ elim (cases_eq v i) [
            | inl same ↦ inl (subst (IsGone leads (slice_set left i None)) (sym same) gone-here)
            | inr away ↦ inr (inl (moved-not r v away lies))
          ]
          | inr further ↦ elim (cases_eq further.0 i) [
            | inl same ↦
                let on : onto (map (move i j) p.places) r ≡ Some j = moved-here r (further.1 ∙ ap Some same) in
                elim (first-step leads i v j led (subst (λ k. Comes leads k v) same further.2)) [
                  | inl there ↦ inr (inl (on ∙ ap Some (sym there)))
                  | inr more ↦ inr (inr (j, on, more))
                ]
            | inr away ↦ inr (inr (further.0, moved-not r further.0 away further.1, further.2))
          ]
        ]
      ]

  new-stay : (r v : ℕ) → onto (map (move i j) p.places) r ≡ Some v → IsGone leads (slice_set left i None) v → ⊥
  new-stay r v lies gone =
      elim (moved-from r v lies) [
        | inl on ↦ elim (gone-before v gone) [ inl same ↦ apart (sym same ∙ on.1) | inr before ↦ next-left (subst (IsGone leads left) on.1 before) ]
        | inr same ↦ elim (gone-before v gone) [ inl own ↦ same.1 own | inr before ↦ p.stay r v same.0 before ]
      ]

  new-backward : (u v : ℕ) → onto leads u ≡ Some v → IsGone leads (slice_set left i None) v → IsGone leads (slice_set left i None) u
  new-backward u v leading gone =
      elim (gone-before v gone) [
        | inl same ↦ gone-still u (before-gone leads left counts incoming p i none u (leading ∙ ap Some same))
        | inr before ↦ gone-still u (p.backward u v leading before)
      ]

  pub below-next : j < length counts
  below-next = p.within i j led

  -- what leads to a number still
  new-come_in : (v : ℕ) → v < length (slice_set incoming j (slice_index incoming j - 1)) → slice_index (slice_set incoming j (slice_index incoming j - 1)) v ≡ tokens (slice_set left i None) v
  new-come_in v less =
      let fits : v < length incoming = omega (arith, less, length-set incoming j (slice_index incoming j - 1)) in
      let taken : tokens (set left i None) v + cond (is_to v (onto left i)) 1 0 ≡ tokens left v + 0 = sum_by-set (λ o. cond (is_to v o) 1 0) left i None None inside in
      elim (cases_eq v j) [
        | inl same ↦
            let one : ◌≡◌ {A = ℕ} (cond (is_to v (onto left i)) 1 0) 1 = ap (λ b. cond b 1 0) (is-to v (onto left i) (at ∙ ap Some (sym same))) in
            let was : slice_index incoming j ≡ tokens left v = ap (slice_index incoming) (sym same) ∙ p.come_in v fits in
            ap (slice_index (slice_set incoming j (slice_index incoming j - 1))) same
            ∙ get_or-set_same incoming j (slice_index incoming j - 1) 0 (omega (arith, below-next, p.counts_size))
            ∙ omega (arith, taken, one, was)
        | inr other ↦
            let nought : ◌≡◌ {A = ℕ} (cond (is_to v (onto left i)) 1 0) 0 = ap (λ b. cond b 1 0) (ap (is_to v) at ∙ ne_eqb j v (λ same. other (sym same))) in
            get_or-set_other incoming j v (slice_index incoming j - 1) 0 other ∙ p.come_in v fits ∙ omega (arith, taken, nought)
      ]

  below-here : i < length counts
  below-here = omega (arith, inside, p.left_size, p.enough)

  new-left-at : (v : ℕ) → v < length (slice_set counts j (slice_index counts j + slice_index counts i)) → (IsGone leads (slice_set left i None) v → ⊥)
      → slice_index (slice_set counts j (slice_index counts j + slice_index counts i)) v ≡ tokens (map (move i j) p.places) v
  new-left-at v less over =
      let sum = slice_index counts j + slice_index counts i in
      let fits : v < length counts = omega (arith, less, length-set counts j sum) in
      let away : v ≢ i = λ same. over (subst (IsGone leads (slice_set left i None)) (sym same) gone-here) in
      let goes = tokens-moved p.places i j v apart away in
      elim (cases_eq v j) [
        | inl same ↦
            let added : cond (j == v) (tokens p.places i) 0 ≡ tokens p.places i = ap (λ b. cond b (tokens p.places i) 0) (eq-eqb j v (sym same)) in
            let one : slice_index counts j ≡ tokens p.places v = ap (slice_index counts) (sym same) ∙ p.at_left v fits (λ gone. over (gone-still v gone)) in
            let other : slice_index counts i ≡ tokens p.places i = p.at_left i below-here left-here in
            ap (slice_index (slice_set counts j sum)) same ∙ get_or-set_same counts j sum 0 below-next ∙ omega (arith, goes, added, one, other)
        | inr other ↦
            let added : ◌≡◌ {A = ℕ} (cond (j == v) (tokens p.places i) 0) 0 = ap (λ b. cond b (tokens p.places i) 0) (ne_eqb j v (λ same. other (sym same))) in
            get_or-set_other counts j v sum 0 other ∙ p.at_left v fits (λ gone. over (gone-still v gone)) ∙ omega (arith, goes, added)
      ]

  new-gone-at : (v : ℕ) → v < length (slice_set counts j (slice_index counts j + slice_index counts i)) → IsGone leads (slice_set left i None) v
      → slice_index (slice_set counts j (slice_index counts j + slice_index counts i)) v ≡ all_to leads v
  new-gone-at v less gone =
      let sum = slice_index counts j + slice_index counts i in
      let fits : v < length counts = omega (arith, less, length-set counts j sum) in
      elim (gone-before v gone) [
        | inl same ↦
            get_or-set_other counts j v sum 0 (λ is. apart (sym same ∙ is))
            ∙ told-there leads left counts incoming p v (ap (tokens left) same ∙ none) fits (inr (λ before. left-here (subst (IsGone leads left) same before)))
        | inr before ↦ get_or-set_other counts j v sum 0 (λ is. next-left (subst (IsGone leads left) is before)) ∙ p.at_gone v fits before
      ]

  new-no-circle : (v : ℕ) → IsGone leads (slice_set left i None) v → Comes leads v v → ⊥
  new-no-circle v gone come =
      elim (gone-before v gone) [
        | inl same ↦ not-itself leads left counts incoming p i none left-here (subst (λ k. Comes leads k k) same come)
        | inr before ↦ p.no_circle v before come
      ]

  -- the number was peeled off
  pub peeled : IsPeeling leads (slice_set left i None) (slice_set counts j (slice_index counts j + slice_index counts i)) (slice_set incoming j (slice_index incoming j - 1))
  peeled = record {
    places = map (move i j) p.places;
    left_size = length-set left i None ∙ p.left_size;
    places_size = length-map p.places (move i j) ∙ p.places_size;
    counts_size = length-set counts j (slice_index counts j + slice_index counts i) ∙ p.counts_size ∙ sym (length-set incoming j (slice_index incoming j - 1));
    enough = omega (arith, p.enough, length-set counts j (slice_index counts j + slice_index counts i));
    within = λ u v is. omega (arith, p.within u v is, length-set counts j (slice_index counts j + slice_index counts i));
    part = new-part;
    come_in = new-come_in;
    sound = new-sound;
    complete = new-complete;
    stay = new-stay;
    backward = new-backward;
    at_left = new-left-at;
    at_gone = new-gone-at;
    no_circle = new-no-circle;
  }

  -- of the numbers below a bound, all were peeled off to which none leads, but for the next one
  pub peeled-upto : (n : ℕ) → IsPeeledUpto left n i → IsPeeledUpto (slice_set left i None) n j
  peeled-upto n upto = record { each = each }
    where
      each : (v : ℕ) → v < n → (v ≡ j → ⊥) → tokens (slice_set left i None) v ≡ 0 → onto (slice_set left i None) v ≡ None
      each v less other gone =
          let taken : tokens (set left i None) v + cond (is_to v (onto left i)) 1 0 ≡ tokens left v + 0 = sum_by-set (λ o. cond (is_to v o) 1 0) left i None None inside in
          let nought : ◌≡◌ {A = ℕ} (cond (is_to v (onto left i)) 1 0) 0 = ap (λ b. cond b 1 0) (ap (is_to v) at ∙ ne_eqb j v (λ same. other (sym same))) in
          elim (cases_eq v i) [
            | inl same ↦ ap (onto (slice_set left i None)) same ∙ get_or-set_same left i None None inside
            | inr away ↦ onto-set left i v away ∙ upto.each v less away (omega (arith, taken, nought, gone))
          ]

  -- one leads to the next one still, so that one may be taken from how many do
  pub next-counted : 0 < slice_index incoming j
  next-counted = omega (arith, p.come_in j (omega (arith, below-next, p.counts_size)), token-counts left i j at)

-- ---- what the code does

-- before any is peeled off
pub peeling-first : (leads : List (Option ℕ)) (counts : List ℕ) → LeadWithin leads (length leads) → CountsTokens leads counts (length leads) → IsPeeling leads leads counts counts
peeling-first leads counts within are = record {
  places = leads;
  left_size = refl;
  places_size = refl;
  counts_size = refl;
  enough = omega (arith, are.size);
  within = λ u v is. omega (arith, within.each u v is, are.size);
  part = λ v. inl refl;
  come_in = λ v less. are.each v (omega (arith, less, are.size));
  sound = λ r v is. here r is;
  complete = first-complete;
  stay = λ r v is gone. none-gone v gone;
  backward = λ u v is gone. absurd (none-gone v gone);
  at_left = λ v less over. are.each v (omega (arith, less, are.size));
  at_gone = λ v less gone. absurd (none-gone v gone);
  no_circle = λ v gone come. none-gone v gone;
}
  where
    none-gone : (v : ℕ) → IsGone leads leads v → ⊥
    none-gone v gone = no-some gone.to (sym gone.gone ∙ gone.led)

    first-complete : (r v : ℕ) → Comes leads r v → IsGone leads leads v ⊎ (onto leads r ≡ Some v) ⊎ ((q : ℕ) × (onto leads r ≡ Some q) × Comes leads q v)
    first-complete _ v (here r is) = inr (inl is)
    first-complete _ v (later r s at rest) = inr (inr (s, at, rest))

pub led-there : (leads left : List (Option ℕ)) (counts incoming : List ℕ) → IsPeeling leads left counts incoming → (v w : ℕ) → onto left v ≡ Some w → onto leads v ≡ Some w
led-there leads left counts incoming p v w at = elim (p.part v) [ inl whole ↦ sym whole ∙ at | inr gone ↦ absurd (no-some w (sym gone ∙ at)) ]

-- the sum of two counts is that of the tokens that lie at one place then
pub moved-fits : (leads left : List (Option ℕ)) (counts incoming : List ℕ) (p : IsPeeling leads left counts incoming) (i j : ℕ) → onto left i ≡ Some j → tokens left i ≡ 0
    → slice_index counts j + slice_index counts i ≤ length leads
moved-fits leads left counts incoming p i j at none =
    let q = peeled leads left counts incoming p i j at none in
    let sum = slice_index counts j + slice_index counts i in
    let below : j < length counts = below-next leads left counts incoming p i j at none in
    let is : slice_index (slice_set counts j sum) j ≡ sum = get_or-set_same counts j sum 0 below in
    let lies : slice_index (slice_set counts j sum) j ≡ tokens q.places j =
    q.at_left j (omega (arith, below, length-set counts j sum)) (λ gone. elim (gone-before leads left counts incoming p i j at none j gone) [
      | inl same ↦ apart leads left counts incoming p i j at none (sym same)
      | inr before ↦ next-left leads left counts incoming p i j at none before
    ]) in
    omega (arith, is, lies, count_by-le-length (is_to j) q.places, q.places_size)

pub peels-to : (t : Tokens) (v next a b d : ℕ) → ArePeeling t → v < length t.leads.items → onto t.left.items v ≡ Some next → tokens t.left.items v ≡ 0
    → a ≡ slice_index t.counts.items next → b ≡ slice_index t.counts.items v → d ≡ slice_index t.incoming.items next
    → IsPeeling t.leads.items (slice_set t.left.items v None) (slice_set t.counts.items next (a + b)) (slice_set t.incoming.items next (d - 1))
peels-to t v next a b d are _ at none first second third =
    subst (λ k. IsPeeling t.leads.items (slice_set t.left.items v None) (slice_set t.counts.items next k) (slice_set t.incoming.items next (d - 1))) (ap₂ (λ x y. x + y) (sym first) (sym second))
    (subst (λ k. IsPeeling t.leads.items (slice_set t.left.items v None) (slice_set t.counts.items next (slice_index t.counts.items next + slice_index t.counts.items v)) (slice_set t.incoming.items next (k - 1))) (sym third)
    (peeled t.leads.items t.left.items t.counts.items t.incoming.items are.peeling v next at none))

pub fewer-left : (left : List (Option ℕ)) (v next : ℕ) → onto left v ≡ Some next → count_by is_some (slice_set left v None) < count_by is_some left
fewer-left left v next at =
    let inside : v < length left = onto-below left v next at in
    let taken : count_by is_some (set left v None) + cond (is_some (onto left v)) 1 0 ≡ count_by is_some left + 0 = sum_by-set (λ o. cond (is_some o) 1 0) left v None None inside in
    let one : ◌≡◌ {A = ℕ} (cond (is_some (onto left v)) 1 0) 1 = ap (λ o. cond (is_some o) 1 0) at in
    omega (arith, taken, one)

-- where none leads to a number any more, and it leads nowhere, or one leads to it still
pub upto-end : (leads left : List (Option ℕ)) (counts incoming : List ℕ) → IsPeeling leads left counts incoming → (n v : ℕ) → IsPeeledUpto left n v → (tokens left v ≡ 0 → onto left v ≡ None) → IsPeeledUpto left n n
upto-end leads left counts incoming p n v upto end = record { each = each }
  where
    each : (q : ℕ) → q < n → (q ≡ n → ⊥) → tokens left q ≡ 0 → onto left q ≡ None
    each q less other none =
        elim (cases_eq q v) [
          | inl same ↦ ap (onto left) same ∙ end (ap (tokens left) (sym same) ∙ none)
          | inr away ↦ upto.each q less away none
        ]

pub upto-next : (left : List (Option ℕ)) (n : ℕ) → IsPeeledUpto left n n → IsPeeledUpto left (n + 1) n
upto-next left n upto = record { each = λ q less other none. upto.each q (omega (arith, less, other)) other none }
