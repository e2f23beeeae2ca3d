-- The circles that are found are all that there are, and as many come to each process of one.
use Rattle.std.proofs.Common.{◌≡◌, ℕ, zero, suc, ◌+◌, ◌<◌, ◌≤◌, ◌==◌, inl, inr, Bool, true, false, not, ◌&&◌, nat_eq, List, [], ◌∷◌, ◌++◌, length, get_or, Option, None, Some, refl, sym, ◌∙◌, ap, subst, arith, append-nil, count_by}
use Rattle.std.specs.Prelude.{All, AllPairs, Any, Contains, filter_map, if◌then◌else◌, nat_le, option_and_then}
use Rattle.std.specs.List.{cons_option, list_all}
use Rattle.std.proofs.lemmas.Bool.{and_from, and_parts, cases_lt, eq-eqb, eqb-true, false≢true, le-leb, leb-true}
use Rattle.std.proofs.lemmas.List.Elements.{All-append, All-cons, All-nil, Contains-append_left, Contains-push, filter_map-append}
use Rattle.std.proofs.lemmas.List.Folds.{list_any_at}
use Rattle.std.proofs.lemmas.List.Quantifiers.{all_pairs_push}
use Rattle.dump_io.specs.Laws.Lists.{same-bools}
use Rattle.dump_io.specs.Laws.Texts.{bytes_eq-refl, bytes_eq-same}
use Rattle.wait_circles.specs.Steps.{upto, way_within}
use Rattle.wait_circles.specs.Waiters.{HaveOwnPids, Waiter, has_pid, next_of, process_of, waiter_at, waits_for}
use Rattle.wait_circles.specs.Coming.{ComesTo, comes, onward, waits}
use Rattle.wait_circles.specs.Blockers.{all_of}
use Rattle.wait_circles.specs.Circles.{IsCircle, circle_from, circles}
use Rattle.wait_circles.specs.Laws.{IsFromLeast, first_of}
use Rattle.wait_circles.specs.Inner.Meeting.{ComesBy, here, is_on, later}
use Rattle.wait_circles.proofs.MeetFacts.{chain-below, chain-once, comes-from, comes-then, distinct-once, few-below, meets-as}
use Rattle.wait_circles.proofs.LeadFacts.{count-but, count-same, no-some}
use Rattle.wait_circles.proofs.ChainFacts.{LeadsTo, all-come, chain-map, chain-way, homeward-once, map-chain, on-cases, on-more, on-own, stays-on, way-chain}
use Rattle.wait_circles.proofs.ComingFacts.{comes-meets, comes-test, next-below, next-parts, process-pid, target-below, test-comes, waits-is}

-- ---- numbers of a list

contains-on : (v : ℕ) (vs : List ℕ) → is_on v vs ≡ true → Contains vs v
contains-on v [] on = absurd (false≢true on)
contains-on v (w ∷ vs) on =
    elim (on-cases v w vs on) [
      | inl same ↦ (0, omega arith, sym same)
      | inr more ↦ (let found = contains-on v vs more in (suc found.0, omega (arith, found.1), found.2))
    ]

on-contains : (v : ℕ) (vs : List ℕ) → Contains vs v → is_on v vs ≡ true
on-contains v vs found = list_any_at (nat_eq v) vs found.0 v found.1 (eq-eqb v (get_or vs found.0 v) (sym found.2))

all-least : (m : ℕ) (vs : List ℕ) → list_all (nat_le m) vs ≡ true → All (λ v. m ≤ v) vs
all-least m [] all = All-nil (λ v. m ≤ v)
all-least m (v ∷ vs) all =
    let parts = and_parts (nat_le m v) (list_all (nat_le m) vs) all in
    All-cons (λ v. m ≤ v) v vs (leb-true m v parts.0) (all-least m vs parts.1)

least-all : (m : ℕ) (vs : List ℕ) → ((q : ℕ) → is_on q vs ≡ true → m ≤ q) → list_all (nat_le m) vs ≡ true
least-all m [] each = refl
least-all m (v ∷ vs) each =
    and_from (nat_le m v) (list_all (nat_le m) vs) (le-leb m v (each v (on-own v vs))) (least-all m vs (λ q on. each q (on-more q v vs on)))

-- the least of some numbers
least-of : (v : ℕ) (vs : List ℕ) → (m : ℕ) × (is_on m (v ∷ vs) ≡ true) × ((q : ℕ) → is_on q (v ∷ vs) ≡ true → m ≤ q)
least-of v [] = (v, on-own v [], λ q on. elim (on-cases q v [] on) [ inl same ↦ omega (arith, same) | inr past ↦ absurd (false≢true past) ])
least-of v (w ∷ vs) =
    let found = least-of w vs in
    elim (cases_lt v found.0) [
      | inl less ↦ (v, on-own v (w ∷ vs), λ q on. elim (on-cases q v (w ∷ vs) on) [ inl same ↦ omega (arith, same) | inr more ↦ omega (arith, less, found.2 q more) ])
      | inr past ↦ (found.0, on-more found.0 v (w ∷ vs) found.1, λ q on. elim (on-cases q v (w ∷ vs) on) [ inl same ↦ omega (arith, same, past) | inr more ↦ found.2 q more ])
    ]

-- ---- steps from process to process, and coming to a pid

-- what comes to a process comes to its pid
pub by-pid : (ws : List Waiter) (v r : ℕ) → ComesBy (next_of ws) r v → ComesTo ws r (waiter_at ws v).pid
by-pid ws v _ (here r is) =
    let parts = next-parts ws r v is in
    waits r (waiter_at ws v).pid (parts.1 ∙ ap Some (process-pid ws parts.0 v parts.2).1)
by-pid ws v _ (later r s at rest) = onward r s (waiter_at ws v).pid at (by-pid ws v s rest)

comes-inside : (ws : List Waiter) (r : ℕ) (target : List ℕ) → ComesTo ws r target → r < length ws
comes-inside ws _ _ (waits r target at) = target-below ws r target at
comes-inside ws _ _ (onward r s target at rest) = next-below ws r s at

-- what comes to the pid of a process comes to the process
pub pid-by : (ws : List Waiter) → HaveOwnPids ws → (v r : ℕ) → v < length ws → ComesTo ws r (waiter_at ws v).pid → ComesBy (next_of ws) r v
pid-by ws own v r inside come =
    meets-as (next_of ws) (λ u. waits_for ws (waiter_at ws v).pid u ≡ true) (λ u. next_of ws u ≡ Some v) r
    (λ u is. ap (option_and_then (process_of ws)) (waits-is ws (waiter_at ws v).pid u is) ∙ own.each v inside)
    (comes-meets ws r (waiter_at ws v).pid come)

-- ---- a circle as a chain

-- each process of a circle comes to each
circle-comes : (ws : List Waiter) (circle : List ℕ) → IsCircle ws circle → (r s : ℕ) → Contains circle r → Contains circle s → ComesBy (next_of ws) r s
circle-comes ws [] is r s one other = absurd (omega (arith, is.some))
circle-comes ws (h ∷ rest) is r s one other =
    all-come (next_of ws) h rest (map-chain (next_of ws) h h rest is.next) r s (on-contains r (h ∷ rest) one) (on-contains s (h ∷ rest) other)

chain-circle : (ws : List Waiter) (r : ℕ) (rest : List ℕ) → LeadsTo (next_of ws) r (r ∷ rest) → is_on r rest ≡ false → IsCircle ws (r ∷ rest)
chain-circle ws r rest chain away = record {
  some = omega arith;
  distinct = distinct-once (r ∷ rest) (homeward-once (next_of ws) r r rest chain away);
  next = chain-map (next_of ws) r r rest chain;
}

-- ---- each that is found is a circle

abbrev circle_at : List Waiter → ℕ → Option (List ℕ)
circle_at ws r = circle_from (next_of ws) (length ws) r

-- it begins with the process from which on it was sought
found-is : (ws : List Waiter) (r : ℕ) (circle : List ℕ) → circle_at ws r ≡ Some circle → IsFromLeast ws circle × (first_of circle ≡ r)
found-is ws r circle is = by (way_within (next_of ws) r (length ws) r) refl is
  where
    tested : (way : List ℕ) → way_within (next_of ws) r (length ws) r ≡ Some way → (b : Bool) → list_all (nat_le r) way ≡ b → (if b then Some way else None) ≡ Some circle
        → IsFromLeast ws circle × (first_of circle ≡ r)
    tested way at false least is = absurd (no-some circle is)
    tested way at true least is =
        let home = way-chain (next_of ws) r (length ws) r way at in
        let same : way ≡ circle = cc (is) in
        let whole : r ∷ home.rest ≡ circle = sym home.is ∙ same in
        let begins : IsFromLeast ws (r ∷ home.rest) = record {
          is = chain-circle ws r home.rest home.chain home.away;
          least = all-least r (r ∷ home.rest) (ap (list_all (nat_le r)) (sym home.is) ∙ least);
        } in
        (subst (IsFromLeast ws) whole begins, ap first_of (sym whole))

    by : (o : Option (List ℕ)) → way_within (next_of ws) r (length ws) r ≡ o → option_and_then (λ way. if list_all (nat_le r) way then Some way else None) o ≡ Some circle
        → IsFromLeast ws circle × (first_of circle ≡ r)
    by None at is = absurd (no-some circle is)
    by (Some way) at is = tested way at (list_all (nat_le r) way) refl is

-- the circles with a first process below this one
abbrev found : List Waiter → ℕ → List (List ℕ)
found ws m = filter_map (circle_at ws) (upto m)

found-next : (ws : List Waiter) (m : ℕ) → found ws (suc m) ≡ found ws m ++ cons_option (circle_at ws m) []
found-next ws m = filter_map-append (circle_at ws) (upto m) (m ∷ [])

abbrev IsFound : List Waiter → ℕ → List ℕ → Type 0
IsFound ws m circle = IsFromLeast ws circle × (first_of circle < m)

with-next : (ws : List Waiter) (m : ℕ) → All (IsFound ws m) (found ws m) → (o : Option (List ℕ)) → circle_at ws m ≡ o → All (IsFound ws (suc m)) (found ws m ++ cons_option o [])
with-next ws m before None at = subst (All (IsFound ws (suc m))) (sym (append-nil (found ws m))) (λ k d less. let one = before k d less in (one.0, omega (arith, one.1)))
with-next ws m before (Some circle) at =
    let is = found-is ws m circle at in
    All-append (IsFound ws (suc m)) (found ws m) (circle ∷ []) (λ k d less. let one = before k d less in (one.0, omega (arith, one.1)))
    (All-cons (IsFound ws (suc m)) circle [] (is.0, omega (arith, is.1)) (All-nil (IsFound ws (suc m))))

found-all : (ws : List Waiter) (m : ℕ) → All (IsFound ws m) (found ws m)
found-all ws zero = All-nil (IsFound ws 0)
found-all ws (suc m) = subst (All (IsFound ws (suc m))) (sym (found-next ws m)) (with-next ws m (found-all ws m) (circle_at ws m) refl)

abbrev ascends : List ℕ → List ℕ → Type 0
ascends before after = first_of before < first_of after

ascends-next : (ws : List Waiter) (m : ℕ) → AllPairs ascends (found ws m) → (o : Option (List ℕ)) → circle_at ws m ≡ o → AllPairs ascends (found ws m ++ cons_option o [])
ascends-next ws m before None at = subst (AllPairs ascends) (sym (append-nil (found ws m))) before
ascends-next ws m before (Some circle) at =
    all_pairs_push ascends (found ws m) circle before (λ k d less. omega (arith, (found-all ws m k d less).1, (found-is ws m circle at).1))

found-ascend : (ws : List Waiter) (m : ℕ) → AllPairs ascends (found ws m)
found-ascend ws zero = λ i j d less inside. absurd (omega (arith, inside))
found-ascend ws (suc m) = subst (AllPairs ascends) (sym (found-next ws m)) (ascends-next ws m (found-ascend ws m) (circle_at ws m) refl)

pub circles-are : (ws : List Waiter) → All (IsFromLeast ws) (circles ws)
circles-are ws = λ k d less. (found-all ws (length ws) k d less).0

pub circles-ascend : (ws : List Waiter) → AllPairs ascends (circles ws)
circles-ascend ws = found-ascend ws (length ws)

-- ---- each process that comes to itself is on one

found-there : (ws : List Waiter) (r : ℕ) (circle : List ℕ) → circle_at ws r ≡ Some circle → (m : ℕ) → r < m → Contains (found ws m) circle
found-there ws r circle is zero less = absurd (omega (arith, less))
found-there ws r circle is (suc m) less =
    subst (λ l. Contains l circle) (sym (found-next ws m))
    (elim (cases_lt r m) [
      | inl before ↦ Contains-append_left (found ws m) (cons_option (circle_at ws m) []) circle (found-there ws r circle is m before)
      | inr past ↦
          let same : r ≡ m = omega (arith, less, past) in
          subst (λ o. Contains (found ws m ++ cons_option o []) circle) (sym (ap (circle_at ws) (sym same) ∙ is)) (Contains-push (found ws m) circle)
    ])

-- it goes round from the least process to which it comes
itself-on : (ws : List Waiter) (r : ℕ) → ComesBy (next_of ws) r r → Any (λ circle. Contains circle r) (circles ws)
itself-on ws r itself =
    let next = next_of ws in
    let n = length ws in
    let ring = chain-once next (λ u. next u ≡ Some r) r itself in
    let m = least-of r ring.0 in
    let again = all-come next r ring.0 ring.1 m.0 m.0 m.1 m.1 in
    let round = chain-once next (λ u. next u ≡ Some m.0) m.0 again in
    let circle = m.0 ∷ round.0 in
    let few = few-below circle n round.2 (chain-below next (λ u. next u ≡ Some m.0) n (next-below ws) (λ u is. next-below ws u m.0 is) circle round.1) in
    let least = least-all m.0 circle
    (λ q on. m.2 q (stays-on next r ring.0 ring.1 q m.0 m.1 (all-come next m.0 round.0 round.1 m.0 q (on-own m.0 round.0) on))) in
    let is : circle_at ws m.0 ≡ Some circle =
    ap (option_and_then (λ way. if list_all (nat_le m.0) way then Some way else None)) (chain-way next m.0 m.0 round.0 n round.1 round.2.0 few)
    ∙ ap (λ b. if b then Some circle else None) least in
    let first = comes-from next m.0 m.0 again in
    let there = found-there ws m.0 circle is n (next-below ws m.0 first.0 first.1) in
    let on : is_on r circle ≡ true = stays-on next m.0 round.0 round.1 r m.0 (on-own m.0 round.0) (all-come next r ring.0 ring.1 m.0 r m.1 (on-own r ring.0)) in
    (there.0, circle, there.1, there.2, contains-on r circle on)

pub on-one : (ws : List Waiter) → HaveOwnPids ws → (r : ℕ) → ComesTo ws r (waiter_at ws r).pid → Any (λ circle. Contains circle r) (circles ws)
on-one ws own r come = itself-on ws r (pid-by ws own r r (comes-inside ws r (waiter_at ws r).pid come) come)

pub one-comes : (ws : List Waiter) (r : ℕ) → Any (λ circle. Contains circle r) (circles ws) → ComesTo ws r (waiter_at ws r).pid
one-comes ws r any =
    let circle = any.1 in
    let begins : IsFromLeast ws circle = subst (IsFromLeast ws) any.3 (circles-are ws any.0 circle any.2) in
    by-pid ws r r (circle-comes ws circle begins.is r r any.4 any.4)

-- ---- as many come to each process of a circle

module _ (ws : List Waiter) (own : HaveOwnPids ws) (circle : List ℕ) (is : IsCircle ws circle) where
  on-inside : (r : ℕ) → Contains circle r → r < length ws
  on-inside r on = let first = comes-from (next_of ws) r r (circle-comes ws circle is r r on on) in next-below ws r first.0 first.1

  -- what comes to the pid of one comes to that of another
  comes-other : (r s : ℕ) → Contains circle r → Contains circle s → (q : ℕ) → comes ws (waiter_at ws r).pid q ≡ true → comes ws (waiter_at ws s).pid q ≡ true
  comes-other r s one other q come =
      comes-test ws (waiter_at ws s).pid q
      (by-pid ws s q
      (comes-then (next_of ws) r s q (pid-by ws own r q (on-inside r one) (test-comes ws (waiter_at ws r).pid q come)) (circle-comes ws circle is r s one other)))

  own-pid : (r : ℕ) → r < length ws → (q : ℕ) → q < length ws → has_pid (waiter_at ws r).pid (waiter_at ws q) ≡ (q == r)
  own-pid r inside q less =
      same-bools (has_pid (waiter_at ws r).pid (waiter_at ws q)) (q == r)
      (λ has.
      let both : Some r ≡ Some q = sym (own.each r inside) ∙ ap (process_of ws) (bytes_eq-same (waiter_at ws r).pid (waiter_at ws q).pid has) ∙ own.each q less in
      let same : r ≡ q = cc (both) in
      eq-eqb q r (sym same))
      (λ at. ap (λ k. has_pid (waiter_at ws r).pid (waiter_at ws k)) (eqb-true q r at) ∙ bytes_eq-refl (waiter_at ws r).pid)

  -- all that come to a process of the circle, and itself
  all-more : (r : ℕ) → Contains circle r → all_of ws (waiter_at ws r).pid + 1 ≡ count_by (comes ws (waiter_at ws r).pid) (upto (length ws))
  all-more r on =
      let pid = (waiter_at ws r).pid in
      let inside = on-inside r on in
      ap (λ k. k + 1)
      (count-same (λ q. comes ws pid q && not (has_pid pid (waiter_at ws q))) (λ q. comes ws pid q && not (q == r)) (length ws)
      (λ q less. ap (λ b. comes ws pid q && not b) (own-pid r inside q less)))
      ∙ count-but (comes ws pid) r (length ws) inside (comes-test ws pid r (by-pid ws r r (circle-comes ws circle is r r on on)))

  pub same-all : (r s : ℕ) → Contains circle r → Contains circle s → all_of ws (waiter_at ws r).pid ≡ all_of ws (waiter_at ws s).pid
  same-all r s one other =
      let same = count-same (comes ws (waiter_at ws r).pid) (comes ws (waiter_at ws s).pid) (length ws)
      (λ q less. same-bools (comes ws (waiter_at ws r).pid q) (comes ws (waiter_at ws s).pid q) (comes-other r s one other q) (comes-other s r other one q)) in
      omega (arith, same, all-more r one, all-more s other)
