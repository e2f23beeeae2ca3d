-- Walking along a circle, and taking one circle after another.
use Rattle.std.proofs.Common.{◌≡◌, ◌≢◌, ℕ, zero, suc, ◌+◌, ◌-◌, ◌<◌, ◌≤◌, ◌==◌, inl, inr, Bool, true, false, cond, not, ◌||◌, nat_eq, List, [], ◌∷◌, ◌++◌, length, get_or, map, Option, None, Some, refl, sym, ◌∙◌, ap, ap₂, subst, arith, sum_by, append-nil, append_assoc}
use Rattle.std.specs.Prelude.{All, drop, is_some, option_to_list, slice_index, slice_set}
use Rattle.std.specs.Option.{option_map_or}
use Rattle.std.proofs.lemmas.Bool.{cases_Bool, cases_eq, eq-eqb, false≢true, ne_eqb, true≢false, or_from, or_parts}
use Rattle.std.proofs.lemmas.List.{drop_at, get_or_read, get_or-set_other, get_or-set_same, length_push, length-set, map-append}
use Rattle.std.proofs.lemmas.List.Elements.{All-map, filter_map-append}
use Rattle.std.proofs.lemmas.List.Folds.{list_any-append}
use Rattle.std.proofs.lemmas.List.Sums.{sum_by-append, sum_by-cons, sum_by_push, count_by-le-length}
use Rattle.dump_io.specs.Laws.Lists.{filter_map-one}
use Rattle.wait_circles.specs.Steps.{upto}
use Rattle.wait_circles.specs.Circles.{circle_from, members, numbered}
use Rattle.wait_circles.specs.declared.on_circle.OnCircle.{OnCircle}
use Rattle.wait_circles.specs.declared.tokens.Tokens.{Tokens}
use Rattle.wait_circles.specs.Inner.Leading.{onto, tokens}
use Rattle.wait_circles.specs.Inner.Meeting.{IsOnce, is_on}
use Rattle.wait_circles.specs.Inner.Telling.{AreTelling, AreTold, IsRing, IsTelling, IsWalking, LeadBelow, TakesCircle, TakesRing, WalksCircle, circles_below, first_or}
use Rattle.wait_circles.proofs.LeadFacts.{no-some, onto-below}
use Rattle.wait_circles.proofs.ChainFacts.{LeadsTo, on-more, on-own}
use Rattle.wait_circles.proofs.RingFacts.{tokens-together}
use Rattle.wait_circles.proofs.TellFacts.{circle-none, circle-some, ring-left, telling-none, telling-taken}

-- ---- parts of a list

on-parts : (v : ℕ) (xs ys : List ℕ) → is_on v (xs ++ ys) ≡ (is_on v xs || is_on v ys)
on-parts v xs ys = list_any-append (nat_eq v) xs ys

-- a number stands once: behind others, it is none of these
once-behind : (xs : List ℕ) (v : ℕ) (ys : List ℕ) → IsOnce (xs ++ v ∷ ys) → is_on v xs ≡ false
once-behind [] v ys once = refl
once-behind (x ∷ xs) v ys once =
    let off = or_parts (is_on x xs) (is_on x (v ∷ ys)) (sym (on-parts x xs (v ∷ ys)) ∙ once.0) in
    let other : (x == v) ≡ false = (or_parts (x == v) (is_on x ys) off.1).0 in
    or_from (nat_eq v x) (is_on v xs) (ne_eqb v x (λ same. false≢true (sym other ∙ eq-eqb x v (sym same)))) (once-behind xs v ys once.1)

-- where a number of a chain leads: to the next of it, or home
chain-next : (leads : List (Option ℕ)) (home : ℕ) (xs : List ℕ) (v : ℕ) (ys : List ℕ) → LeadsTo (onto leads) home (xs ++ v ∷ ys) → onto leads v ≡ Some (first_or home ys)
chain-next leads home [] v [] chain = chain
chain-next leads home [] v (y ∷ ys) chain = chain.0
chain-next leads home (x ∷ []) v ys chain = chain-next leads home [] v ys chain.1
chain-next leads home (x ∷ z ∷ xs) v ys chain = chain-next leads home (z ∷ xs) v ys chain.1

-- ---- walking

pub walking-first : (leads left : List (Option ℕ)) (counts : List ℕ) (home circle w : ℕ) (on : List OnCircle) → IsTelling leads left counts home → onto left home ≡ Some w
    → IsWalking leads left left counts home home 0 circle on on
walking-first leads left counts home circle w on t at =
    let found = t.ring home w at in
    record {
      rest = found.0;
      walked = [];
      to_come = home ∷ found.0;
      ring = found.1;
      parts = refl;
      next = refl;
      left_size = refl;
      gone = λ v there. absurd (false≢true there);
      out = λ v off. refl;
      sum = refl;
      all = sym (append-nil on);
    }

members-push : (circle : ℕ) (vs : List ℕ) (v : ℕ) → members circle (vs ++ v ∷ []) ≡ members circle vs ++ record { circle = circle; process = v } ∷ []
members-push circle vs v = map-append (λ (r : ℕ). record { circle = circle; process = r }) vs (v ∷ [])

module _ (leads left now : List (Option ℕ)) (counts : List ℕ) (home v total circle : ℕ) (on taken : List OnCircle) (t : IsTelling leads left counts home) (first : (x : ℕ) × (onto left home ≡ Some x))
    (w : IsWalking leads left now counts home v total circle on taken) where
  -- what is to come is left
  still : (c : ℕ) (more : List ℕ) → w.to_come ≡ c ∷ more → (is_on c w.walked ≡ false) × ((x : ℕ) × (onto now c ≡ Some x) × (onto leads c ≡ Some x))
  still c more is =
      let whole : home ∷ w.rest ≡ w.walked ++ c ∷ more = w.parts ∙ ap (λ l. w.walked ++ l) is in
      let off = once-behind w.walked c more (subst IsOnce whole w.ring.once) in
      let on-ring : is_on c (home ∷ w.rest) ≡ true = ap (is_on c) whole ∙ on-parts c w.walked (c ∷ more) ∙ ap (λ b. b || is_on c (c ∷ more)) off ∙ on-own c more in
      let there = ring-left leads left counts home t first.0 first.1 w.rest w.ring c on-ring in
      (off, (there.0, w.out c off ∙ there.1, there.2))

  next-cases : (vs : List ℕ) → w.to_come ≡ vs → (next : ℕ) → onto now v ≡ Some next → (more : List ℕ) × (w.to_come ≡ v ∷ more) × (next ≡ first_or home more) × (is_on v w.walked ≡ false)
  next-cases [] is next at =
      let whole : home ∷ w.rest ≡ w.walked = w.parts ∙ ap (λ l. w.walked ++ l) is ∙ append-nil w.walked in
      let same : v ≡ home = w.next ∙ ap (first_or home) is in
      let there : is_on v w.walked ≡ true = ap (is_on v) (sym whole) ∙ ap (λ k. is_on k (home ∷ w.rest)) same ∙ on-own home w.rest in
      absurd (no-some next (sym (w.gone v there) ∙ at))
  next-cases (c ∷ more) is next at =
      let same : v ≡ c = w.next ∙ ap (first_or home) is in
      let those : w.to_come ≡ v ∷ more = is ∙ ap (λ k. k ∷ more) (sym same) in
      let s = still v more those in
      let whole : home ∷ w.rest ≡ w.walked ++ v ∷ more = w.parts ∙ ap (λ l. w.walked ++ l) those in
      let goes = chain-next leads home w.walked v more (subst (LeadsTo (onto leads) home) whole w.ring.chain) in
      let one : Some s.1.0 ≡ Some next = sym s.1.1 ∙ at in
      let other : Some s.1.0 ≡ Some (first_or home more) = sym s.1.2 ∙ goes in
      (more, those, (let e = sym one ∙ other in cc (e)), s.0)

  pub walking-next : (next count : ℕ) → onto now v ≡ Some next → count ≡ slice_index counts v
      → IsWalking leads left (slice_set now v None) counts home next (total + count) circle on (taken ++ record { circle = circle; process = v } ∷ [])
  walking-next next count at counted =
      let s = next-cases w.to_come refl next at in
      let inside : v < length now = onto-below now v next at in
      record {
        rest = w.rest;
        walked = w.walked ++ v ∷ [];
        to_come = s.0;
        ring = w.ring;
        parts = w.parts ∙ ap (λ l. w.walked ++ l) s.1 ∙ sym (append_assoc w.walked (v ∷ []) s.0);
        next = s.2;
        left_size = length-set now v None ∙ w.left_size;
        gone = λ q there. elim (cases_eq q v) [
          | inl same ↦ ap (onto (slice_set now v None)) same ∙ get_or-set_same now v None None inside
          | inr other ↦ get_or-set_other now v q None None other ∙ w.gone q (before q other there)
        ];
        out = λ q off.
            let parts = or_parts (is_on q w.walked) (is_on q (v ∷ [])) (sym (on-parts q w.walked (v ∷ [])) ∙ off) in
            get_or-set_other now v q None None (λ same. false≢true (sym parts.1 ∙ subst (λ k. is_on q (k ∷ []) ≡ true) same (on-own q []))) ∙ w.out q parts.0;
        sum = ap₂ (λ a b. a + b) w.sum counted ∙ sym (sum_by_push (slice_index counts) w.walked v);
        all = ap (λ l. l ++ record { circle = circle; process = v } ∷ []) w.all ∙ append_assoc on (members circle w.walked) (record { circle = circle; process = v } ∷ [])
            ∙ ap (λ l. on ++ l) (sym (members-push circle w.walked v));
      }
    where
      before : (q : ℕ) → q ≢ v → is_on q (w.walked ++ v ∷ []) ≡ true → is_on q w.walked ≡ true
      before q other there =
          elim (cases_Bool (is_on q w.walked)) [
            | inl held ↦ held
            | inr off ↦ absurd (false≢true (sym (on-parts q w.walked (v ∷ []) ∙ or_from (is_on q w.walked) (is_on q (v ∷ [])) off (or_from (nat_eq q v) false (ne_eqb q v other) refl)) ∙ there))
          ]

  end-cases : (vs : List ℕ) → w.to_come ≡ vs → onto now v ≡ None → home ∷ w.rest ≡ w.walked
  end-cases [] is none = w.parts ∙ ap (λ l. w.walked ++ l) is ∙ append-nil w.walked
  end-cases (c ∷ more) is none =
      let same : v ≡ c = w.next ∙ ap (first_or home) is in
      let s = still c more is in
      absurd (no-some s.1.0 (sym none ∙ ap (onto now) same ∙ s.1.1))

  pub walking-end : onto now v ≡ None → home ∷ w.rest ≡ w.walked
  walking-end none = end-cases w.to_come refl none

-- the number at hand is on the circle
pub walk-inside : (leads left now : List (Option ℕ)) (counts : List ℕ) (home v total circle : ℕ) (on taken : List OnCircle) → IsTelling leads left counts home → (x : ℕ) → onto left home ≡ Some x
    → IsWalking leads left now counts home v total circle on taken → v < length leads
walk-inside leads left now counts home v total circle on taken t x at w =
    let there = ring-left leads left counts home t x at w.rest w.ring v (by w.to_come refl) in
    onto-below leads v there.0 there.2
  where
    by : (vs : List ℕ) → w.to_come ≡ vs → is_on v (home ∷ w.rest) ≡ true
    by [] is = ap (λ k. is_on k (home ∷ w.rest)) (w.next ∙ ap (first_or home) is) ∙ on-own home w.rest
    by (c ∷ more) is =
        ap (is_on v) (w.parts ∙ ap (λ l. w.walked ++ l) is) ∙ on-parts v w.walked (c ∷ more)
        ∙ or-on (is_on v w.walked) (ap (λ k. is_on k (c ∷ more)) (w.next ∙ ap (first_or home) is) ∙ on-own c more)
      where
        or-on : (a : Bool) {b : Bool} → b ≡ true → (a || b) ≡ true
        or-on true is = refl
        or-on false is = is

-- the counts at the numbers of a circle that is left are those of the tokens
counts-tokens : (leads left : List (Option ℕ)) (counts : List ℕ) (home : ℕ) (t : IsTelling leads left counts home) (vs : List ℕ) → ((c : ℕ) → is_on c vs ≡ true → (x : ℕ) × (onto left c ≡ Some x))
    → sum_by (slice_index counts) vs ≡ sum_by (tokens t.places) vs
counts-tokens leads left counts home t [] all = refl
counts-tokens leads left counts home t (c ∷ vs) all =
    let there = all c (on-own c vs) in
    sum_by-cons (slice_index counts) c vs
    ∙ ap₂ (λ a b. a + b) (t.at_left c there.0 there.1) (counts-tokens leads left counts home t vs (λ q on. all q (on-more q c vs on)))
    ∙ sym (sum_by-cons (tokens t.places) c vs)

pub ring-counts : (leads left : List (Option ℕ)) (counts : List ℕ) (home : ℕ) (t : IsTelling leads left counts home) (x : ℕ) → onto left home ≡ Some x → (rest : List ℕ) → IsRing leads home rest
    → sum_by (slice_index counts) (home ∷ rest) ≡ sum_by (tokens t.places) (home ∷ rest)
ring-counts leads left counts home t x at rest ring =
    counts-tokens leads left counts home t (home ∷ rest) (λ c on. let there = ring-left leads left counts home t x at rest ring c on in (there.0, there.1))

-- no more tokens lie on a circle than there are numbers
pub ring-fits : (leads left : List (Option ℕ)) (counts : List ℕ) (home : ℕ) (t : IsTelling leads left counts home) (x : ℕ) → onto left home ≡ Some x → (rest : List ℕ) → IsRing leads home rest
    → sum_by (slice_index counts) (home ∷ rest) ≤ length leads
ring-fits leads left counts home t x at rest ring =
    omega (arith, ring-counts leads left counts home t x at rest ring, tokens-together t.places (home ∷ rest) ring.once, count_by-le-length (λ o. option_map_or (λ v. is_on v (home ∷ rest)) o false) t.places, t.places_size)

pub walk-fits : (leads left now : List (Option ℕ)) (counts : List ℕ) (home v total circle : ℕ) (on taken : List OnCircle) → IsTelling leads left counts home → (x : ℕ) → onto left home ≡ Some x
    → IsWalking leads left now counts home v total circle on taken → (next : ℕ) → onto now v ≡ Some next → total + slice_index counts v ≤ length leads
walk-fits leads left now counts home v total circle on taken t x at w next goes =
    let s = walking-next leads left now counts home v total circle on taken t (x, at) w next (slice_index counts v) goes refl in
    let whole = sum_by-append (slice_index counts) s.walked s.to_come in
    let all : sum_by (slice_index counts) (home ∷ s.rest) ≡ sum_by (slice_index counts) (s.walked ++ s.to_come) = ap (sum_by (slice_index counts)) s.parts in
    omega (arith, s.sum, whole, all, ring-fits leads left counts home t x at s.rest s.ring)

-- ---- telling

process : OnCircle → ℕ
process one = one.process

pub told-none : (t : Tokens) (all : ℕ) → AreTold t t [] all
told-none t all = record { leads = refl; left = refl; size = refl; told = λ v on. absurd (false≢true on); out = λ v off. refl }

-- one number more
pub told-more : (old mid new : Tokens) (vs : List ℕ) (v all : ℕ) → AreTold old mid vs all → v < length mid.counts.items → new.leads.items ≡ mid.leads.items → new.left.items ≡ mid.left.items
    → new.counts.items ≡ slice_set mid.counts.items v all → AreTold old new (vs ++ v ∷ []) all
told-more old mid new vs v all so_far inside leads left counts = record {
  leads = leads ∙ so_far.leads;
  left = left ∙ so_far.left;
  size = ap length counts ∙ length-set mid.counts.items v all ∙ so_far.size;
  told = λ q on. ap (λ l. slice_index l q) counts ∙ elim (cases_eq q v) [
    | inl same ↦ ap (slice_index (slice_set mid.counts.items v all)) same ∙ get_or-set_same mid.counts.items v all 0 inside
    | inr other ↦ get_or-set_other mid.counts.items v q all 0 other ∙ so_far.told q (before q other on)
  ];
  out = λ q off.
      let parts = or_parts (is_on q vs) (is_on q (v ∷ [])) (sym (on-parts q vs (v ∷ [])) ∙ off) in
      ap (λ l. slice_index l q) counts
      ∙ get_or-set_other mid.counts.items v q all 0 (λ same. false≢true (sym parts.1 ∙ subst (λ k. is_on q (k ∷ []) ≡ true) same (on-own q [])))
      ∙ so_far.out q parts.0;
}
  where
    before : (q : ℕ) → q ≢ v → is_on q (vs ++ v ∷ []) ≡ true → is_on q vs ≡ true
    before q other there =
        elim (cases_Bool (is_on q vs)) [
          | inl held ↦ held
          | inr off ↦ absurd (false≢true (sym (on-parts q vs (v ∷ []) ∙ or_from (is_on q vs) (is_on q (v ∷ [])) off (or_from (nat_eq q v) false (ne_eqb q v other) refl)) ∙ there))
        ]

pub members-are : (circle : ℕ) (vs : List ℕ) → map (λ (one : OnCircle). one.process) (members circle vs) ≡ vs
members-are circle [] = refl
members-are circle (v ∷ vs) = ap (λ l. v ∷ l) (members-are circle vs)

-- ---- a circle is taken

module _ (old : Tokens) (home : ℕ) (telling : AreTelling old home) where
  pub takes-none : (circle : ℕ) (on : List OnCircle) → onto old.left.items home ≡ None → TakesCircle old old home circle on on false
  takes-none circle on none = record {
    found = None;
    is = λ count below. circle-none old.leads.items old.left.items old.counts.items count home telling.telling none;
    one = refl;
    all = sym (append-nil on);
    leads = refl;
    telling = record { telling = telling-none old.leads.items old.left.items old.counts.items home telling.telling none };
  }

  pub total-some : (mid : Tokens) (circle total x : ℕ) (on taken : List OnCircle) → onto old.left.items home ≡ Some x → WalksCircle old mid home circle on taken total → 1 ≤ total
  total-some mid circle total x on taken at walks =
      omega (arith, walks.sum, ring-counts old.leads.items old.left.items old.counts.items home telling.telling x at walks.rest walks.ring, telling.telling.sums home home walks.rest walks.ring (on-own home walks.rest))

  pub takes-some : (mid new : Tokens) (circle total x : ℕ) (on taken : List OnCircle) → onto old.left.items home ≡ Some x → (walks : WalksCircle old mid home circle on taken total)
      → (vs : List ℕ) → vs ≡ home ∷ walks.rest → AreTold mid new vs (total - 1) → TakesCircle old new home circle on taken true
  takes-some mid new circle total x on taken at walks vs are told =
      let some = total-some mid circle total x on taken at walks in
      let same : total ≡ sum_by (tokens telling.telling.places) (home ∷ walks.rest) = walks.sum ∙ ring-counts old.leads.items old.left.items old.counts.items home telling.telling x at walks.rest walks.ring in
      let whole : AreTold mid new (home ∷ walks.rest) (total - 1) = subst (λ l. AreTold mid new l (total - 1)) are told in
      let took : TakesRing old.left.items new.left.items old.counts.items new.counts.items (home ∷ walks.rest) (sum_by (tokens telling.telling.places) (home ∷ walks.rest)) = record {
        left_size = ap length whole.left ∙ walks.left_size;
        counts_size = whole.size ∙ ap length walks.counts;
        gone = λ v there. ap (λ l. onto l v) whole.left ∙ walks.gone v there;
        left_out = λ v off. ap (λ l. onto l v) whole.left ∙ walks.out v off;
        told = λ v there. omega (arith, whole.told v there, some, same);
        counts_out = λ v off. whole.out v off ∙ ap (λ l. slice_index l v) walks.counts;
      } in
      record {
        found = Some (home ∷ walks.rest);
        is = λ count below. circle-some old.leads.items old.left.items old.counts.items home telling.telling x at walks.rest walks.ring count below.each;
        one = refl;
        all = walks.all;
        leads = whole.leads ∙ walks.leads;
        telling = record {
          telling = subst (λ l. IsTelling l new.left.items new.counts.items (home + 1)) (sym (whole.leads ∙ walks.leads))
              (telling-taken old.leads.items old.left.items old.counts.items home telling.telling x at walks.rest walks.ring new.left.items new.counts.items took);
        };
      }

-- ---- one circle after another

numbered-push : (number : ℕ) (circles : List (List ℕ)) (circle : List ℕ) → numbered number (circles ++ circle ∷ []) ≡ numbered number circles ++ members (number + length circles) circle
numbered-push number [] circle = append-nil (members number circle) ∙ ap (λ n. members n circle) (let e : number ≡ number + 0 = omega arith in e)
numbered-push number (c ∷ circles) circle =
    let there : number + 1 + length circles ≡ number + length (c ∷ circles) = omega arith in
    ap (λ l. members number c ++ l) (numbered-push (number + 1) circles circle)
    ∙ sym (append_assoc (members number c) (numbered (number + 1) circles) (members (number + 1 + length circles) circle))
    ∙ ap (λ n. (members number c ++ numbered (number + 1) circles) ++ members n circle) there

circles-next : (leads : List (Option ℕ)) (count home : ℕ) → circles_below leads count (home + 1) ≡ circles_below leads count home ++ option_to_list (circle_from (onto leads) count home)
circles-next leads count home =
    ap (λ n. circles_below leads count n) (let e : home + 1 ≡ suc home = omega arith in e)
    ∙ filter_map-append (circle_from (onto leads) count) (upto home) (home ∷ [])
    ∙ ap (λ l. circles_below leads count home ++ l) (filter_map-one (circle_from (onto leads) count) home)

-- what was found of the numbers below one
pub record HasCircles (leads : List (Option ℕ)) (count below circles : ℕ) (taken : List OnCircle) : Type 0 where
  pub on : taken ≡ numbered 1 (circles_below leads count below)
  pub number : circles ≡ length (circles_below leads count below)
  pub few : circles ≤ below

pub circles-none : (leads : List (Option ℕ)) (count : ℕ) (taken : List OnCircle) → taken ≡ [] → HasCircles leads count 0 0 taken
circles-none leads count taken none = record { on = none; number = refl; few = omega arith }

pub circles-more : (old new : Tokens) (leads : List (Option ℕ)) (count home circles : ℕ) (on taken : List OnCircle) (is_one : Bool) → HasCircles leads count home circles on → old.leads.items ≡ leads → LeadBelow leads count
    → TakesCircle old new home (circles + 1) on taken is_one → HasCircles leads count (home + 1) (circles + cond is_one 1 0) taken
circles-more old new leads count home circles on taken is_one had same below takes = by takes.found refl
  where
    begins : circle_from (onto leads) count home ≡ takes.found
    begins = ap (λ l. circle_from (onto l) count home) (sym same) ∙ takes.is count (subst (λ l. LeadBelow l count) (sym same) below)

    by : (o : Option (List ℕ)) → takes.found ≡ o → HasCircles leads count (home + 1) (circles + cond is_one 1 0) taken
    by None is =
        let next : circles_below leads count (home + 1) ≡ circles_below leads count home = circles-next leads count home ∙ ap (λ o. circles_below leads count home ++ option_to_list o) (begins ∙ is) ∙ append-nil (circles_below leads count home) in
        let none : is_one ≡ false = takes.one ∙ ap is_some is in
        let nought : ◌≡◌ {A = ℕ} (cond is_one 1 0) 0 = ap (λ b. cond b 1 0) none in
        record {
          on = takes.all ∙ ap (λ o. on ++ option_map_or (members (circles + 1)) o []) is ∙ append-nil on ∙ had.on ∙ ap (numbered 1) (sym next);
          number = omega (arith, nought, had.number, ap length next);
          few = omega (arith, nought, had.few);
        }
    by (Some circle) is =
        let next : circles_below leads count (home + 1) ≡ circles_below leads count home ++ circle ∷ [] = circles-next leads count home ∙ ap (λ o. circles_below leads count home ++ option_to_list o) (begins ∙ is) in
        let some : is_one ≡ true = takes.one ∙ ap is_some is in
        let one : ◌≡◌ {A = ℕ} (cond is_one 1 0) 1 = ap (λ b. cond b 1 0) some in
        let number : circles + 1 ≡ 1 + length (circles_below leads count home) = omega (arith, had.number) in
        record {
          on = takes.all ∙ ap (λ o. on ++ option_map_or (members (circles + 1)) o []) is ∙ ap₂ (λ l n. l ++ members n circle) had.on number
              ∙ sym (ap (numbered 1) next ∙ numbered-push 1 (circles_below leads count home) circle);
          number = omega (arith, one, had.number, ap length next ∙ length_push (circles_below leads count home) circle);
          few = omega (arith, one, had.few);
        }

-- each number of a circle has a count
pub ring-counted : (old mid : Tokens) (home circle total : ℕ) (on taken : List OnCircle) → AreTelling old home → (x : ℕ) → onto old.left.items home ≡ Some x → (walks : WalksCircle old mid home circle on taken total)
    → All (λ (one : OnCircle). one.process < length mid.counts.items) (members circle (home ∷ walks.rest))
ring-counted old mid home circle total on taken telling x at walks =
    All-map (λ (one : OnCircle). one.process < length mid.counts.items) (λ (r : ℕ). record { circle = circle; process = r }) (home ∷ walks.rest)
    (λ k d inside. below (get_or (home ∷ walks.rest) k d) (on-at (home ∷ walks.rest) k d inside))
  where
    on-at : (vs : List ℕ) (k d : ℕ) → k < length vs → is_on (get_or vs k d) vs ≡ true
    on-at [] k d inside = absurd (omega (arith, inside))
    on-at (v ∷ vs) zero d inside = on-own v vs
    on-at (v ∷ vs) (suc k) d inside = on-more (get_or vs k d) v vs (on-at vs k d (omega (arith, inside)))

    below : (v : ℕ) → is_on v (home ∷ walks.rest) ≡ true → v < length mid.counts.items
    below v there =
        let t = telling.telling in
        let led = ring-left old.leads.items old.left.items old.counts.items home t x at walks.rest walks.ring v there in
        omega (arith, onto-below old.leads.items v led.0 led.2, t.enough, ap length walks.counts)

-- what is behind the circles that were there is the circle that was taken
pub behind-is : (on taken : List OnCircle) (circle start : ℕ) (vs : List ℕ) → taken ≡ on ++ members circle vs → start ≡ length on → drop start taken ≡ members circle vs
behind-is on taken circle start vs is size = ap (drop start) is ∙ drop_at on (members circle vs) start (sym size)

some-left : (o : Option ℕ) → is_some o ≡ true → (x : ℕ) × (o ≡ Some x)
some-left None is = absurd (false≢true is)
some-left (Some x) is = (x, refl)

none-there : (o : Option ℕ) → is_some o ≡ false → o ≡ None
none-there None is = refl
none-there (Some x) is = absurd (true≢false is)

pub is-left : (left : List (Option ℕ)) (v : ℕ) (o : Option ℕ) (b : Bool) → v < length left → o ≡ get_or left v o → is_some o ≡ not b → b ≡ false → (x : ℕ) × (onto left v ≡ Some x)
is-left left v o b inside read test is = let found = some-left o (test ∙ ap not is) in (found.0, sym (get_or_read left v o inside read None) ∙ found.1)

pub isnt-left : (left : List (Option ℕ)) (v : ℕ) (o : Option ℕ) (b : Bool) → v < length left → o ≡ get_or left v o → is_some o ≡ not b → b ≡ true → onto left v ≡ None
isnt-left left v o b inside read test is = sym (get_or_read left v o inside read None) ∙ none-there o (test ∙ ap not is)
