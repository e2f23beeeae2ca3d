-- What is met on the way from number to number, and that as many steps as there are numbers are enough.
use Rattle.std.proofs.Common.{◌≡◌, ℕ, zero, suc, ◌<◌, ◌≤◌, inl, inr, Bool, true, false, nat_eq, List, [], ◌∷◌, length, Option, None, Some, refl, sym, ◌∙◌, ap, subst, arith}
use Rattle.std.specs.List.{IsDistinct}
use Rattle.std.specs.Option.{option_map_or}
use Rattle.std.proofs.lemmas.Bool.{cases_Bool, eqb-true, false≢true, or_cases, or_left, or_right}
use Rattle.std.proofs.lemmas.Map.Steps.{length-le_from_distinct_below}
use Rattle.dump_io.specs.Laws.Lists.{none_passes}
use Rattle.wait_circles.specs.Steps.{some_within}
use Rattle.wait_circles.specs.Inner.Meeting.{ComesBy, IsChain, IsOnce, Meets, here, is_on, later}

pub meets-as : (next : ℕ → Option ℕ) (P Q : ℕ → Type 0) (r : ℕ) → ((u : ℕ) → P u → Q u) → Meets next P r → Meets next Q r
meets-as next P Q _ also (here r is) = here r (also r is)
meets-as next P Q _ also (later r s at rest) = later r s at (meets-as next P Q s also rest)

-- ---- one after another

pub comes-then : (next : ℕ → Option ℕ) (s v r : ℕ) → ComesBy next r s → ComesBy next s v → ComesBy next r v
comes-then next s v _ (here r is) more = later r s is more
comes-then next s v _ (later r q at rest) more = later r q at (comes-then next s v q rest more)

-- what comes to another leads somewhere
pub comes-from : (next : ℕ → Option ℕ) (v r : ℕ) → ComesBy next r v → (s : ℕ) × (next r ≡ Some s)
comes-from next v _ (here r is) = (v, is)
comes-from next v _ (later r s at rest) = (s, at)

-- ---- what the test finds is met

some-meets : (next : ℕ → Option ℕ) (test : ℕ → Bool) (n r : ℕ) (o : Option ℕ) → next r ≡ o
    → ((s : ℕ) → some_within next test n s ≡ true → Meets next (λ u. test u ≡ true) s)
    → option_map_or (λ s. some_within next test n s) o false ≡ true → Meets next (λ u. test u ≡ true) r
some-meets next test n r None at rest is = absurd (false≢true is)
some-meets next test n r (Some s) at rest is = later r s at (rest s is)

pub within-meets : (next : ℕ → Option ℕ) (test : ℕ → Bool) (n r : ℕ) → some_within next test n r ≡ true → Meets next (λ u. test u ≡ true) r
within-meets next test zero r is = absurd (false≢true is)
within-meets next test (suc n) r is =
    elim (or_cases (test r) (option_map_or (λ s. some_within next test n s) (next r) false) is) [
      | inl own ↦ here r own
      | inr rest ↦ some-meets next test n r (next r) refl (within-meets next test n) rest
    ]

-- ---- chains

pub distinct-once : (rs : List ℕ) → IsOnce rs → IsDistinct nat_eq rs
unfolding IsDistinct
distinct-once [] once = tt
distinct-once (r ∷ rest) once = (none_passes (nat_eq r) rest once.0, distinct-once rest once.1)

-- a chain from one of its numbers on
pub chain-from : (next : ℕ → Option ℕ) (Last : ℕ → Type 0) (r h : ℕ) (rest : List ℕ) → is_on r (h ∷ rest) ≡ true → IsChain next Last (h ∷ rest) → IsOnce (h ∷ rest)
    → (tail : List ℕ) × IsChain next Last (r ∷ tail) × IsOnce (r ∷ tail)
chain-from next Last r h [] on chain once =
    elim (or_cases (nat_eq r h) false on) [
      | inl same ↦ ([], subst Last (sym (eqb-true r h same)) chain, (refl, tt))
      | inr past ↦ absurd (false≢true past)
    ]
chain-from next Last r h (s ∷ rest) on chain once =
    elim (or_cases (nat_eq r h) (is_on r (s ∷ rest)) on) [
      | inl same ↦
          let is : h ≡ r = sym (eqb-true r h same) in
          (s ∷ rest, subst (λ k. IsChain next Last (k ∷ s ∷ rest)) is chain, subst (λ k. IsOnce (k ∷ s ∷ rest)) is once)
      | inr more ↦ chain-from next Last r s rest more chain.1 once.1
    ]

-- what is met is met by a chain on which each number stands once
pub chain-once : (next : ℕ → Option ℕ) (Last : ℕ → Type 0) (r : ℕ) → Meets next Last r → (tail : List ℕ) × IsChain next Last (r ∷ tail) × IsOnce (r ∷ tail)
chain-once next Last _ (here r is) = ([], is, (refl, tt))
chain-once next Last _ (later r s at rest) =
    let found = chain-once next Last s rest in
    elim (cases_Bool (is_on r (s ∷ found.0))) [
      | inl on ↦ chain-from next Last r s found.0 on found.1 found.2
      | inr off ↦ (s ∷ found.0, (at, found.1), (off, found.2))
    ]

-- a chain of different numbers, of which each is below a bound, has no more of them
pub chain-below : (next : ℕ → Option ℕ) (Last : ℕ → Type 0) (n : ℕ) → ((r s : ℕ) → next r ≡ Some s → r < n) → ((r : ℕ) → Last r → r < n)
    → (rs : List ℕ) → IsChain next Last rs → (q : ℕ) → is_on q rs ≡ true → q < n
chain-below next Last n inner last [] chain q on = absurd (false≢true on)
chain-below next Last n inner last (r ∷ []) chain q on =
    elim (or_cases (nat_eq q r) false on) [
      | inl same ↦ subst (λ k. k < n) (sym (eqb-true q r same)) (last r chain)
      | inr past ↦ absurd (false≢true past)
    ]
chain-below next Last n inner last (r ∷ s ∷ rest) chain q on =
    elim (or_cases (nat_eq q r) (is_on q (s ∷ rest)) on) [
      | inl same ↦ subst (λ k. k < n) (sym (eqb-true q r same)) (inner r s chain.0)
      | inr more ↦ chain-below next Last n inner last (s ∷ rest) chain.1 q more
    ]

pub few-below : (rs : List ℕ) (n : ℕ) → IsOnce rs → ((q : ℕ) → is_on q rs ≡ true → q < n) → length rs ≤ n
few-below rs n once below = length-le_from_distinct_below rs n (distinct-once rs once) below

-- ---- a chain is found in as many steps as it has numbers

pub chain-within : (next : ℕ → Option ℕ) (test : ℕ → Bool) (r : ℕ) (rest : List ℕ) (n : ℕ) → IsChain next (λ u. test u ≡ true) (r ∷ rest) → length (r ∷ rest) ≤ n → some_within next test n r ≡ true
chain-within next test r rest zero chain few = absurd (omega (arith, few))
chain-within next test r [] (suc n) chain few = or_left (test r) (option_map_or (λ s. some_within next test n s) (next r) false) chain
chain-within next test r (s ∷ rest) (suc n) chain few =
    or_right (test r) (option_map_or (λ q. some_within next test n q) (next r) false)
    (ap (λ o. option_map_or (λ q. some_within next test n q) o false) chain.0 ∙ chain-within next test s rest n chain.1 (omega (arith, few)))

pub meets-within : (next : ℕ → Option ℕ) (test : ℕ → Bool) (n r : ℕ) → ((r s : ℕ) → next r ≡ Some s → r < n) → ((r : ℕ) → test r ≡ true → r < n)
    → Meets next (λ u. test u ≡ true) r → some_within next test n r ≡ true
meets-within next test n r inner last met =
    let found = chain-once next (λ u. test u ≡ true) r met in
    chain-within next test r found.0 n found.1
    (few-below (r ∷ found.0) n found.2 (chain-below next (λ u. test u ≡ true) n inner last (r ∷ found.0) found.1))
