-- Which processes come to a target, as a relation, as a test, and by numbers.
use Rattle.std.proofs.Common.{◌≡◌, ℕ, zero, suc, ◌+◌, ◌<◌, ◌≤◌, ◌==◌, ◌⊎◌, inl, inr, Bool, true, false, cond, not, ◌&&◌, List, [], ◌∷◌, length, get_or, Option, None, Some, refl, sym, ◌∙◌, ap, ap₂, arith, count_by}
use Rattle.std.specs.Prelude.{if◌then◌else◌, option_and_then, option_map, bytes_eq}
use Rattle.std.specs.Option.{option_map_or, option_or}
use Rattle.std.proofs.lemmas.Bool.{cases_lt, eq-eqb, eqb-true, false≢true, ne_eqb, and_parts}
use Rattle.std.proofs.lemmas.List.{get_or_past}
use Rattle.std.proofs.lemmas.List.Quantifiers.{position-Some}
use Rattle.std.proofs.lemmas.List.Sums.{sum_by_push}
use Rattle.dump_io.specs.Laws.Lists.{same-bools}
use Rattle.dump_io.specs.Laws.Texts.{bytes_eq-refl, bytes_eq-same}
use Rattle.text_groups.specs.Numbers.{number_in}
use Rattle.wait_circles.specs.Steps.{upto, way_within}
use Rattle.wait_circles.specs.Waiters.{HaveOwnPids, Waiter, has_pid, next_of, process_of, target_at, waiter_at, waits_for}
use Rattle.wait_circles.specs.Coming.{ComesTo, comes, onward, waits}
use Rattle.wait_circles.specs.Blockers.{all_of, direct_of}
use Rattle.wait_circles.specs.Inner.Leading.{Comes, all_to, is_to, onto, reaches, tokens}
use Rattle.wait_circles.specs.Inner.Meeting.{Meets, here, later}
use Rattle.wait_circles.specs.Inner.Numbering.{IsNumbered, node_of}
use Rattle.wait_circles.proofs.LeadFacts.{comes-reaches, count-places, count-same, is-to, no-some, reaches-comes, to-is}
use Rattle.wait_circles.proofs.MeetFacts.{meets-within, within-meets}

nobody : Waiter
nobody = record { pid = []; target = None }

-- ---- relation and test

-- a process that waits is one of them
pub target-below : (ws : List Waiter) (r : ℕ) (target : List ℕ) → target_at ws r ≡ Some target → r < length ws
target-below ws r target at =
    elim (cases_lt r (length ws)) [
      | inl less ↦ less
      | inr past ↦ absurd (no-some target (sym (ap (λ (w : Waiter). w.target) (get_or_past ws r (record { pid = []; target = None }) past)) ∙ at))
    ]

pub waits-is : (ws : List Waiter) (target : List ℕ) (r : ℕ) → waits_for ws target r ≡ true → target_at ws r ≡ Some target
waits-is ws target r is = by (target_at ws r) refl is
  where
    by : (o : Option (List ℕ)) → target_at ws r ≡ o → option_map_or (bytes_eq target) o false ≡ true → o ≡ Some target
    by None at is = absurd (false≢true is)
    by (Some other) at is = ap Some (sym (bytes_eq-same target other is))

pub is-waits : (ws : List Waiter) (target : List ℕ) (r : ℕ) → target_at ws r ≡ Some target → waits_for ws target r ≡ true
is-waits ws target r at = ap (λ o. option_map_or (bytes_eq target) o false) at ∙ bytes_eq-refl target

-- the target of a process, and the process that it is
pub next-parts : (ws : List Waiter) (r s : ℕ) → next_of ws r ≡ Some s → (target : List ℕ) × (target_at ws r ≡ Some target) × (process_of ws target ≡ Some s)
next-parts ws r s is = by (target_at ws r) refl is
  where
    by : (o : Option (List ℕ)) → target_at ws r ≡ o → option_and_then (process_of ws) o ≡ Some s → (target : List ℕ) × (target_at ws r ≡ Some target) × (process_of ws target ≡ Some s)
    by None at is = absurd (no-some s is)
    by (Some target) at is = (target, at, is)

pub next-below : (ws : List Waiter) (r s : ℕ) → next_of ws r ≡ Some s → r < length ws
next-below ws r s is = let parts = next-parts ws r s is in target-below ws r parts.0 parts.1

meets-comes : (ws : List Waiter) (target : List ℕ) (r : ℕ) → Meets (next_of ws) (λ u. waits_for ws target u ≡ true) r → ComesTo ws r target
meets-comes ws target _ (here r is) = waits r target (waits-is ws target r is)
meets-comes ws target _ (later r s at rest) = onward r s target at (meets-comes ws target s rest)

pub comes-meets : (ws : List Waiter) (r : ℕ) (target : List ℕ) → ComesTo ws r target → Meets (next_of ws) (λ u. waits_for ws target u ≡ true) r
comes-meets ws _ _ (waits r target at) = here r (is-waits ws target r at)
comes-meets ws _ _ (onward r s target at rest) = later r s at (comes-meets ws s target rest)

-- as many steps as there are processes are enough
pub test-comes : (ws : List Waiter) (target : List ℕ) (r : ℕ) → comes ws target r ≡ true → ComesTo ws r target
test-comes ws target r is = meets-comes ws target r (within-meets (next_of ws) (waits_for ws target) (length ws) r is)

pub comes-test : (ws : List Waiter) (target : List ℕ) (r : ℕ) → ComesTo ws r target → comes ws target r ≡ true
comes-test ws target r come =
    meets-within (next_of ws) (waits_for ws target) (length ws) r (next-below ws) (λ q is. target-below ws q target (waits-is ws target q is)) (comes-meets ws r target come)

-- ---- numbers

same-some : {X : Type 0} {x y : X} → Some x ≡ Some y → x ≡ y
same-some is = cc (is)

-- a number is that of one target
pub process-pid : (ws : List Waiter) (target : List ℕ) (s : ℕ) → process_of ws target ≡ Some s → (s < length ws) × (target ≡ (waiter_at ws s).pid)
process-pid ws target s is =
    let at = position-Some (has_pid target) ws s (record { pid = []; target = None }) is in
    (at.0, bytes_eq-same target (waiter_at ws s).pid at.1)

module _ (ws : List Waiter) (others : List (List ℕ)) where
  -- a number is that of a process, or stands behind those of the processes
  pub node-parts : (target : List ℕ) (v : ℕ) → node_of ws others target ≡ Some v
      → (process_of ws target ≡ Some v) ⊎ ((process_of ws target ≡ None) × (k : ℕ) × (number_in others target ≡ Some k) × (v ≡ length ws + k))
  node-parts target v is = by (process_of ws target) refl (number_in others target) refl is
    where
      by : (o : Option ℕ) → process_of ws target ≡ o → (n : Option ℕ) → number_in others target ≡ n → option_or o (option_map (λ k. length ws + k) n) ≡ Some v
          → (process_of ws target ≡ Some v) ⊎ ((process_of ws target ≡ None) × (k : ℕ) × (number_in others target ≡ Some k) × (v ≡ length ws + k))
      by (Some s) at n other is = inl (at ∙ is)
      by None at None other is = absurd (no-some v is)
      by None at (Some k) other is = inr (at, k, other, sym (same-some is))

  process-node : (target : List ℕ) (s : ℕ) → process_of ws target ≡ Some s → node_of ws others target ≡ Some s
  process-node target s is = ap (λ o. option_or o (option_map (λ k. length ws + k) (number_in others target))) is

  -- the number of a process is that of a target only if it is that process
  node-process : (target : List ℕ) (v : ℕ) → v < length ws → node_of ws others target ≡ Some v → process_of ws target ≡ Some v
  node-process target v inside is =
      elim (node-parts target v is) [ inl process ↦ process | inr behind ↦ absurd (omega (arith, inside, behind.3)) ]

  same-target : (a b : List ℕ) (v : ℕ) → node_of ws others a ≡ Some v → node_of ws others b ≡ Some v → a ≡ b
  same-target a b v one other =
      elim (node-parts a v one) [
        | inl process ↦
            let at = process-pid ws a v process in
            at.1 ∙ sym (process-pid ws b v (node-process b v at.0 other)).1
        | inr behind ↦ elim (node-parts b v other) [
          | inl process ↦ absurd (omega (arith, (process-pid ws b v process).0, behind.3))
          | inr again ↦
              let k : behind.1 ≡ again.1 = omega (arith, behind.3, again.3) in
              let at = position-Some (bytes_eq a) others behind.1 [] behind.2 in
              let also = position-Some (bytes_eq b) others again.1 [] again.2 in
              bytes_eq-same a (get_or others behind.1 []) at.1 ∙ ap (λ n. get_or others n []) k ∙ sym (bytes_eq-same b (get_or others again.1 []) also.1)
        ]
      ]

module _ (ws : List Waiter) (others : List (List ℕ)) (leads : List (Option ℕ)) (n : IsNumbered ws others leads) where
  -- what leads somewhere is a process with a target
  pub lead-target : (r v : ℕ) → onto leads r ≡ Some v → (target : List ℕ) × (target_at ws r ≡ Some target) × (node_of ws others target ≡ Some v)
  lead-target r v is = by (target_at ws r) refl
    where
      by : (o : Option (List ℕ)) → target_at ws r ≡ o → (target : List ℕ) × (target_at ws r ≡ Some target) × (node_of ws others target ≡ Some v)
      by None at = absurd (no-some v (sym (n.none r at) ∙ is))
      by (Some target) at = let e = n.each r target at in (target, at, e.1 ∙ ap Some (same-some (sym e.2 ∙ is)))

  pub lead-process : (r v : ℕ) → onto leads r ≡ Some v → r < length ws
  lead-process r v is = let t = lead-target r v is in target-below ws r t.0 t.1

  target-leads : (r : ℕ) (target : List ℕ) (v : ℕ) → target_at ws r ≡ Some target → node_of ws others target ≡ Some v → onto leads r ≡ Some v
  target-leads r target v at is = let e = n.each r target at in e.2 ∙ ap Some (same-some (sym e.1 ∙ is))

  next-leads : (r s : ℕ) → next_of ws r ≡ Some s → onto leads r ≡ Some s
  next-leads r s is = let parts = next-parts ws r s is in target-leads r parts.0 s parts.1 (process-node ws others parts.0 s parts.2)

  leads-next : (r s : ℕ) → s < length ws → onto leads r ≡ Some s → next_of ws r ≡ Some s
  leads-next r s inside is =
      let t = lead-target r s is in
      ap (option_and_then (process_of ws)) t.1 ∙ node-process ws others t.0 s inside t.2

  -- ---- who comes to a target with a number

  to-numbers : (r : ℕ) (target : List ℕ) (v : ℕ) → node_of ws others target ≡ Some v → ComesTo ws r target → Comes leads r v
  to-numbers _ _ v is (waits r target at) = here r (target-leads r target v at is)
  to-numbers _ _ v is (onward r s target at rest) = later r s (next-leads r s at) (to-numbers s target v is rest)

  from-numbers : (target : List ℕ) (v : ℕ) → node_of ws others target ≡ Some v → (r : ℕ) → Comes leads r v → ComesTo ws r target
  from-numbers target v is _ (here r at) =
      let t = lead-target r v at in
      waits r target (t.1 ∙ ap Some (same-target ws others t.0 target v t.2 is))
  from-numbers target v is _ (later r s at rest) = onward r s target (leads-next r s (begins s rest) at) (from-numbers target v is s rest)
    where
      begins : (s : ℕ) → Comes leads s v → s < length ws
      begins _ (here s at) = lead-process s v at
      begins _ (later s q at more) = lead-process s q at

  pub comes-numbered : (target : List ℕ) (v r : ℕ) → node_of ws others target ≡ Some v → comes ws target r ≡ reaches leads v r
  comes-numbered target v r is =
      same-bools (comes ws target r) (reaches leads v r)
      (λ come. comes-reaches leads v r (to-numbers r target v is (test-comes ws target r come)))
      (λ reach. comes-test ws target r (from-numbers target v is r (reaches-comes leads v r reach)))

  pub waits-numbered : (target : List ℕ) (v r : ℕ) → node_of ws others target ≡ Some v → waits_for ws target r ≡ is_to v (onto leads r)
  waits-numbered target v r is =
      same-bools (waits_for ws target r) (is_to v (onto leads r))
      (λ wait. is-to v (onto leads r) (target-leads r target v (waits-is ws target r wait) is))
      (λ to. let t = lead-target r v (to-is v (onto leads r) to) in is-waits ws target r (t.1 ∙ ap Some (same-target ws others t.0 target v t.2 is)))

  -- what no number from the processes on does counts among these alone
  count-tail : (q : ℕ → Bool) (k : ℕ) → ((r : ℕ) → length ws ≤ r → q r ≡ false) → count_by q (upto (k + length ws)) ≡ count_by q (upto (length ws))
  count-tail q zero none = ap (λ m. count_by q (upto m)) (let e : 0 + length ws ≡ length ws = omega arith in e)
  count-tail q (suc k) none =
      let next : suc k + length ws ≡ suc (k + length ws) = omega arith in
      let nought : ◌≡◌ {A = ℕ} (cond (q (k + length ws)) 1 0) 0 = ap (λ b. cond b 1 0) (none (k + length ws) (omega arith)) in
      ap (λ m. count_by q (upto m)) next
      ∙ omega (arith, sum_by_push (λ r. cond (q r) 1 0) (upto (k + length ws)) (k + length ws), nought, count-tail q k none)

  size-swapped : length leads ≡ length others + length ws
  size-swapped = omega (arith, n.size)

  pub direct-numbered : (target : List ℕ) (v : ℕ) → node_of ws others target ≡ Some v → direct_of ws target ≡ tokens leads v
  direct-numbered target v is =
      sym (count-tail (waits_for ws target) (length others) (λ r past. false-past r past))
      ∙ ap (λ m. count_by (waits_for ws target) (upto m)) (sym size-swapped)
      ∙ count-places (waits_for ws target) (is_to v) leads (length leads) refl (λ r less. waits-numbered target v r is)
    where
      false-past : (r : ℕ) → length ws ≤ r → waits_for ws target r ≡ false
      false-past r past = ap (λ (w : Waiter). option_map_or (bytes_eq target) w.target false) (get_or_past ws r (record { pid = []; target = None }) past)

  own-numbered : HaveOwnPids ws → (target : List ℕ) (v r : ℕ) → node_of ws others target ≡ Some v → r < length ws → has_pid target (waiter_at ws r) ≡ (r == v)
  own-numbered own target v r is inside =
      same-bools (has_pid target (waiter_at ws r)) (r == v)
      (λ has.
      let same : target ≡ (waiter_at ws r).pid = bytes_eq-same target (waiter_at ws r).pid has in
      let node : node_of ws others target ≡ Some r = process-node ws others target r (ap (process_of ws) same ∙ own.each r inside) in
      eq-eqb r v (same-some (sym node ∙ is)))
      (λ at.
      let same : r ≡ v = eqb-true r v at in
      let process : process_of ws target ≡ Some r = node-process ws others target r inside (is ∙ ap Some (sym same)) in
      (position-Some (has_pid target) ws r (record { pid = []; target = None }) process).1)

  pub all-numbered : HaveOwnPids ws → (target : List ℕ) (v : ℕ) → node_of ws others target ≡ Some v → all_of ws target ≡ all_to leads v
  all-numbered own target v is =
      count-same (λ r. comes ws target r && not (has_pid target (waiter_at ws r))) (λ r. reaches leads v r && not (r == v)) (length ws)
      (λ r less. ap₂ (λ a b. a && not b) (comes-numbered target v r is) (own-numbered own target v r is less))
      ∙ sym (count-tail (λ r. reaches leads v r && not (r == v)) (length others) none-past)
      ∙ ap (λ m. count_by (λ r. reaches leads v r && not (r == v)) (upto m)) (sym size-swapped)
    where
      none-past : (r : ℕ) → length ws ≤ r → (reaches leads v r && not (r == v)) ≡ false
      none-past r past =
          same-bools (reaches leads v r && not (r == v)) false
          (λ both. absurd (begins r past (reaches-comes leads v r (and_parts (reaches leads v r) (not (r == v)) both).0)))
          (λ never. absurd (false≢true never))
        where
          begins : (r : ℕ) → length ws ≤ r → Comes leads r v → ⊥
          begins r past come = steps r past come
            where
              steps : (r : ℕ) → length ws ≤ r → Comes leads r v → ⊥
              steps _ past (here r at) = omega (arith, past, lead-process r v at)
              steps _ past (later r q at more) = omega (arith, past, lead-process r q at)

  -- ---- the way back

  way-nowhere : (home k s : ℕ) → onto leads s ≡ None → way_within (onto leads) home k s ≡ None
  way-nowhere home zero s none = refl
  way-nowhere home (suc k) s none = ap (option_and_then (λ q. if q == home then Some (s ∷ []) else option_map (λ way. s ∷ way) (way_within (onto leads) home k q))) none

  pub way-numbered : (home : ℕ) → home < length ws → (k r : ℕ) → way_within (next_of ws) home k r ≡ way_within (onto leads) home k r
  way-numbered home inside zero r = refl
  way-numbered home inside (suc k) r = by (next_of ws r) refl (onto leads r) refl (way-numbered home inside k)
    where
      step : (ℕ → Option ℕ) → ℕ → Option (List ℕ)
      step next s = if s == home then Some (r ∷ []) else option_map (λ way. r ∷ way) (way_within next home k s)

      by : (a : Option ℕ) → next_of ws r ≡ a → (b : Option ℕ) → onto leads r ≡ b → ((s : ℕ) → way_within (next_of ws) home k s ≡ way_within (onto leads) home k s)
          → option_and_then (λ s. if s == home then Some (r ∷ []) else option_map (λ way. r ∷ way) (way_within (next_of ws) home k s)) a
          ≡ option_and_then (λ s. if s == home then Some (r ∷ []) else option_map (λ way. r ∷ way) (way_within (onto leads) home k s)) b
      by None at None to same = refl
      by None at (Some s) to same =
          let past : length ws ≤ s = elim (cases_lt s (length ws)) [ inl less ↦ absurd (no-some s (sym at ∙ leads-next r s less to)) | inr more ↦ more ] in
          sym (ap (λ b. if b then Some (r ∷ []) else option_map (λ way. r ∷ way) (way_within (onto leads) home k s)) (ne_eqb s home (λ is. omega (arith, inside, past, is)))
          ∙ ap (option_map (λ way. r ∷ way)) (way-nowhere home k s (nowhere s past (onto leads s) refl)))
        where
          nowhere : (s : ℕ) → length ws ≤ s → (o : Option ℕ) → onto leads s ≡ o → o ≡ None
          nowhere s past None at = refl
          nowhere s past (Some q) at = absurd (omega (arith, past, lead-process s q at))
      by (Some s) at None to same = absurd (no-some s (sym to ∙ next-leads r s at))
      by (Some s) at (Some q) to same =
          let is : s ≡ q = same-some (sym (next-leads r s at) ∙ to) in
          ap (λ o. if s == home then Some (r ∷ []) else option_map (λ way. r ∷ way) o) (same s)
          ∙ ap (λ x. if x == home then Some (r ∷ []) else option_map (λ way. r ∷ way) (way_within (onto leads) home k x)) is
