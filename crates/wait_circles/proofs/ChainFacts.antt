-- Chains of numbers, each of which leads to the next one, and circles of them.
use Rattle.std.proofs.Common.{◌≡◌, ℕ, zero, suc, ◌≤◌, ◌==◌, ◌⊎◌, inl, inr, Bool, true, false, ◌||◌, nat_eq, List, [], ◌∷◌, ◌++◌, length, map, Option, None, Some, refl, sym, ◌∙◌, ap, ap₂, subst, arith}
use Rattle.std.specs.Prelude.{if◌then◌else◌, option_and_then, option_map}
use Rattle.std.proofs.lemmas.Bool.{eqb-true, eq-eqb, ne_eqb, false≢true, or_cases, or_left, or_right, false_from_ne_true}
use Rattle.wait_circles.specs.Steps.{way_within}
use Rattle.wait_circles.specs.Inner.Meeting.{ComesBy, IsChain, IsOnce, here, is_on, later}
use Rattle.wait_circles.proofs.LeadFacts.{no-some}
use Rattle.wait_circles.proofs.MeetFacts.{comes-then}

-- ---- numbers on a list

pub on-own : (v : ℕ) (vs : List ℕ) → is_on v (v ∷ vs) ≡ true
on-own v vs = or_left (nat_eq v v) (is_on v vs) (eq-eqb v v refl)

pub on-more : (q v : ℕ) (vs : List ℕ) → is_on q vs ≡ true → is_on q (v ∷ vs) ≡ true
on-more q v vs on = or_right (nat_eq q v) (is_on q vs) on

pub on-cases : (q v : ℕ) (vs : List ℕ) → is_on q (v ∷ vs) ≡ true → (q ≡ v) ⊎ (is_on q vs ≡ true)
on-cases q v vs on = elim (or_cases (nat_eq q v) (is_on q vs) on) [ inl same ↦ inl (eqb-true q v same) | inr more ↦ inr more ]

away-behind : (v s : ℕ) (vs : List ℕ) → is_on v (s ∷ vs) ≡ false → is_on v vs ≡ false
away-behind v s vs off = false_from_ne_true (is_on v vs) (λ on. false≢true (sym off ∙ on-more v s vs on))

same-head : {X : Type 0} (x y : X) (xs ys : List X) → x ∷ xs ≡ y ∷ ys → x ≡ y
same-head x y xs ys is = cc (is)

same-tail : {X : Type 0} (x y : X) (xs ys : List X) → x ∷ xs ≡ y ∷ ys → xs ≡ ys
same-tail x y xs ys is = cc (is)

-- ---- chains that lead to a number

-- each leads to the next one, and the last to `home`
abbrev pub LeadsTo : (ℕ → Option ℕ) → ℕ → List ℕ → Type 0
LeadsTo next home vs = IsChain next (λ u. next u ≡ Some home) vs

-- where a number of the chain leads
pub next-on : (next : ℕ → Option ℕ) (home c w h : ℕ) (rest : List ℕ) → LeadsTo next home (h ∷ rest) → is_on c (h ∷ rest) ≡ true → next c ≡ Some w
    → (is_on w rest ≡ true) ⊎ (w ≡ home)
next-on next home c w h [] chain on at =
    elim (on-cases c h [] on) [
      | inl same ↦ inr (let e : Some w ≡ Some home = sym at ∙ ap next same ∙ chain in cc)
      | inr past ↦ absurd (false≢true past)
    ]
next-on next home c w h (s ∷ rest) chain on at =
    elim (on-cases c h (s ∷ rest) on) [
      | inl same ↦ inl (let e : Some w ≡ Some s = sym at ∙ ap next same ∙ chain.0 in let is : w ≡ s = cc in subst (λ k. is_on k (s ∷ rest) ≡ true) (sym is) (on-own s rest))
      | inr more ↦ elim (next-on next home c w s rest chain.1 more at) [ inl behind ↦ inl (on-more w s rest behind) | inr end ↦ inr end ]
    ]

-- each number of the chain comes where it leads
pub comes-home : (next : ℕ → Option ℕ) (home c h : ℕ) (rest : List ℕ) → LeadsTo next home (h ∷ rest) → is_on c (h ∷ rest) ≡ true → ComesBy next c home
comes-home next home c h [] chain on =
    elim (on-cases c h [] on) [
      | inl same ↦ here c (ap next same ∙ chain)
      | inr past ↦ absurd (false≢true past)
    ]
comes-home next home c h (s ∷ rest) chain on =
    elim (on-cases c h (s ∷ rest) on) [
      | inl same ↦ later c s (ap next same ∙ chain.0) (comes-home next home s s rest chain.1 (on-own s rest))
      | inr more ↦ comes-home next home c s rest chain.1 more
    ]

-- the first comes to each of the others
pub first-comes : (next : ℕ → Option ℕ) (home c h : ℕ) (rest : List ℕ) → LeadsTo next home (h ∷ rest) → is_on c rest ≡ true → ComesBy next h c
first-comes next home c h [] chain on = absurd (false≢true on)
first-comes next home c h (s ∷ rest) chain on =
    elim (on-cases c s rest on) [
      | inl same ↦ here h (chain.0 ∙ ap Some (sym same))
      | inr more ↦ later h s chain.0 (first-comes next home c s rest chain.1 more)
    ]

-- what a number on a circle comes to is on it
pub stays-on : (next : ℕ → Option ℕ) (home : ℕ) (rest : List ℕ) → LeadsTo next home (home ∷ rest) → (w c : ℕ) → is_on c (home ∷ rest) ≡ true → ComesBy next c w → is_on w (home ∷ rest) ≡ true
stays-on next home rest chain w _ on (here c is) =
    elim (next-on next home c w home rest chain on is) [
      | inl behind ↦ on-more w home rest behind
      | inr end ↦ subst (λ k. is_on k (home ∷ rest) ≡ true) (sym end) (on-own home rest)
    ]
stays-on next home rest chain w _ on (later c s at more) =
    stays-on next home rest chain w s
    (elim (next-on next home c s home rest chain on at) [
      | inl behind ↦ on-more s home rest behind
      | inr end ↦ subst (λ k. is_on k (home ∷ rest) ≡ true) (sym end) (on-own home rest)
    ])
    more

-- each number of a circle comes to each of them
pub all-come : (next : ℕ → Option ℕ) (home : ℕ) (rest : List ℕ) → LeadsTo next home (home ∷ rest) → (c d : ℕ) → is_on c (home ∷ rest) ≡ true → is_on d (home ∷ rest) ≡ true → ComesBy next c d
all-come next home rest chain c d one other =
    let back = comes-home next home c home rest chain one in
    elim (on-cases d home rest other) [
      | inl same ↦ subst (λ k. ComesBy next c k) (sym same) back
      | inr behind ↦ comes-then next home d c back (first-comes next home d home rest chain behind)
    ]

-- ---- the way back as a value

-- a chain that comes home for the first time is the way within as many steps
pub chain-way : (next : ℕ → Option ℕ) (home h : ℕ) (rest : List ℕ) (n : ℕ) → LeadsTo next home (h ∷ rest) → is_on home rest ≡ false → length (h ∷ rest) ≤ n
    → way_within next home n h ≡ Some (h ∷ rest)
chain-way next home h rest zero chain off few = absurd (omega (arith, few))
chain-way next home h [] (suc n) chain off few =
    ap (option_and_then (λ s. if s == home then Some (h ∷ []) else option_map (λ way. h ∷ way) (way_within next home n s))) chain
    ∙ ap (λ b. if b then Some (h ∷ []) else option_map (λ way. h ∷ way) (way_within next home n home)) (eq-eqb home home refl)
chain-way next home h (s ∷ rest) (suc n) chain off few =
    let other : (s == home) ≡ false = false_from_ne_true (s == home) (λ same. false≢true (sym off ∙ subst (λ k. is_on home (k ∷ rest) ≡ true) (sym (eqb-true s home same)) (on-own home rest))) in
    ap (option_and_then (λ s. if s == home then Some (h ∷ []) else option_map (λ way. h ∷ way) (way_within next home n s))) chain.0
    ∙ ap (λ b. if b then Some (h ∷ []) else option_map (λ way. h ∷ way) (way_within next home n s)) other
    ∙ ap (option_map (λ way. h ∷ way)) (chain-way next home s rest n chain.1 (away-behind home s rest off) (omega (arith, few)))

-- a way is a chain that leads home
pub record IsHomeward (next : ℕ → Option ℕ) (home r : ℕ) (way : List ℕ) : Type 0 where
  pub rest : List ℕ
  pub is : way ≡ r ∷ rest
  pub chain : IsChain next (λ u. next u ≡ Some home) (r ∷ rest)
  pub away : is_on home rest ≡ false

pub way-chain : (next : ℕ → Option ℕ) (home n r : ℕ) (way : List ℕ) → way_within next home n r ≡ Some way → IsHomeward next home r way
way-chain next home zero r way is = absurd (no-some way is)
way-chain next home (suc n) r way is = by (next r) refl is (way-chain next home n)
  where
    led : (s : ℕ) → next r ≡ Some s → (o : Option (List ℕ)) → (s == home) ≡ false → ((other : List ℕ) → o ≡ Some other → IsHomeward next home s other) → option_map (λ w. r ∷ w) o ≡ Some way → IsHomeward next home r way
    led s at None other more is = absurd (no-some way is)
    led s at (Some found) other more is =
        let behind = more found refl in
        let whole : r ∷ found ≡ way = cc (is) in
        record {
          rest = s ∷ behind.rest;
          is = sym whole ∙ ap (λ l. r ∷ l) behind.is;
          chain = (at, behind.chain);
          away = ap (λ b. b || is_on home behind.rest) (ne_eqb home s (λ same. false≢true (sym other ∙ eq-eqb s home (sym same)))) ∙ behind.away;
        }

    at-home : (s : ℕ) → next r ≡ Some s → (b : Bool) → (s == home) ≡ b → ((t : ℕ) (other : List ℕ) → way_within next home n t ≡ Some other → IsHomeward next home t other)
        → (if b then Some (r ∷ []) else option_map (λ w. r ∷ w) (way_within next home n s)) ≡ Some way → IsHomeward next home r way
    at-home s at true same more is =
        let whole : r ∷ [] ≡ way = cc (is) in
        record { rest = []; is = sym whole; chain = at ∙ ap Some (eqb-true s home same); away = refl }
    at-home s at false other more is = led s at (way_within next home n s) other (more s) is

    by : (o : Option ℕ) → next r ≡ o → option_and_then (λ s. if s == home then Some (r ∷ []) else option_map (λ w. r ∷ w) (way_within next home n s)) o ≡ Some way
        → ((t : ℕ) (other : List ℕ) → way_within next home n t ≡ Some other → IsHomeward next home t other) → IsHomeward next home r way
    by None at is more = absurd (no-some way is)
    by (Some s) at is more = at-home s at (s == home) refl more is

-- ---- on the way home each number stands once

-- from each number of a chain on, the chain is no longer
chain-rest : (next : ℕ → Option ℕ) (home v h : ℕ) (rest : List ℕ) → LeadsTo next home (h ∷ rest) → is_on home rest ≡ false → is_on v (h ∷ rest) ≡ true
    → (tail : List ℕ) × (length tail ≤ length rest) × LeadsTo next home (v ∷ tail) × (is_on home tail ≡ false)
chain-rest next home v h [] chain away on =
    elim (on-cases v h [] on) [
      | inl same ↦ ([], omega arith, subst (λ k. LeadsTo next home (k ∷ [])) (sym same) chain, refl)
      | inr past ↦ absurd (false≢true past)
    ]
chain-rest next home v h (s ∷ rest) chain away on =
    elim (on-cases v h (s ∷ rest) on) [
      | inl same ↦ (s ∷ rest, omega arith, subst (λ k. LeadsTo next home (k ∷ s ∷ rest)) (sym same) chain, away)
      | inr more ↦
          let found = chain-rest next home v s rest chain.1 (away-behind home s rest away) more in
          (found.0, omega (arith, found.1), found.2, found.3)
    ]

-- else the same steps would lead home from it by two ways of different lengths
pub homeward-once : (next : ℕ → Option ℕ) (home h : ℕ) (rest : List ℕ) → LeadsTo next home (h ∷ rest) → is_on home rest ≡ false → IsOnce (h ∷ rest)
homeward-once next home h [] chain away = (refl, tt)
homeward-once next home h (s ∷ rest) chain away =
    (false_from_ne_true (is_on h (s ∷ rest)) again, homeward-once next home s rest chain.1 (away-behind home s rest away))
  where
    again : is_on h (s ∷ rest) ≡ true → ⊥
    again on =
        let other = chain-rest next home h s rest chain.1 (away-behind home s rest away) on in
        let n = length (h ∷ s ∷ rest) in
        let short : way_within next home n h ≡ Some (h ∷ other.0) = chain-way next home h other.0 n other.2 other.3 (omega (arith, other.1)) in
        let long : way_within next home n h ≡ Some (h ∷ s ∷ rest) = chain-way next home h (s ∷ rest) n chain away (omega arith) in
        let both : Some (h ∷ other.0) ≡ Some (h ∷ s ∷ rest) = sym short ∙ long in
        let same : h ∷ other.0 ≡ h ∷ s ∷ rest = cc (both) in
        omega (arith, ap length same, other.1)

-- ---- chains by where their numbers lead, one after another

pub chain-map : (next : ℕ → Option ℕ) (home h : ℕ) (rest : List ℕ) → LeadsTo next home (h ∷ rest) → map next (h ∷ rest) ≡ map Some (rest ++ home ∷ [])
chain-map next home h [] chain = ap (λ o. o ∷ []) chain
chain-map next home h (s ∷ rest) chain = ap₂ (λ o l. o ∷ l) chain.0 (chain-map next home s rest chain.1)

pub map-chain : (next : ℕ → Option ℕ) (home h : ℕ) (rest : List ℕ) → map next (h ∷ rest) ≡ map Some (rest ++ home ∷ []) → LeadsTo next home (h ∷ rest)
map-chain next home h [] is = same-head (next h) (Some home) [] [] is
map-chain next home h (s ∷ rest) is = (
  same-head (next h) (Some s) (map next (s ∷ rest)) (map Some (rest ++ home ∷ [])) is,
  map-chain next home s rest (same-tail (next h) (Some s) (map next (s ∷ rest)) (map Some (rest ++ home ∷ [])) is),
)
