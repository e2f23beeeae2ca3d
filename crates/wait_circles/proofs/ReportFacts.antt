-- What is found by numbers is what is found of the processes.
use Rattle.std.proofs.Common.{◌≡◌, ℕ, zero, suc, ◌<◌, Bool, ◌||◌, List, [], ◌∷◌, ◌++◌, length, Option, None, Some, refl, sym, ◌∙◌, ap, ap₂, arith}
use Rattle.std.specs.Prelude.{filter_map, if◌then◌else◌, nat_le, option_and_then}
use Rattle.std.specs.List.{cons_option, list_all, list_any}
use Rattle.std.proofs.lemmas.List.Elements.{filter_map-append}
use Rattle.text_groups.specs.Sorting.{most_first}
use Rattle.wait_circles.specs.Steps.{upto}
use Rattle.wait_circles.specs.Waiters.{HaveOwnPids, Waiter, next_of, target_at, waits_for}
use Rattle.wait_circles.specs.Blockers.{all_of, blocker_at, blockers, direct_of}
use Rattle.wait_circles.specs.Circles.{circle_from, circles, numbered}
use Rattle.wait_circles.specs.Report.{WaitReport, wait_report}
use Rattle.wait_circles.specs.declared.blocker.Blocker.{Blocker}
use Rattle.wait_circles.specs.declared.on_circle.OnCircle.{OnCircle}
use Rattle.wait_circles.specs.Inner.Blocking.{CountsAll, node_blocker, node_blockers}
use Rattle.wait_circles.specs.Inner.Leading.{all_to, is_to, onto, tokens}
use Rattle.wait_circles.specs.Inner.Numbering.{IsNumbered, node_of}
use Rattle.wait_circles.specs.Inner.Telling.{IsTelling, LeadBelow, circles_below}
use Rattle.wait_circles.proofs.LeadFacts.{no-some}
use Rattle.wait_circles.proofs.ComingFacts.{all-numbered, direct-numbered, lead-process, waits-numbered, way-numbered}

-- two functions that agree at each of the first numbers
filter-same : {X : Type 0} (f g : ℕ → Option X) (n : ℕ) → ((r : ℕ) → r < n → f r ≡ g r) → filter_map f (upto n) ≡ filter_map g (upto n)
filter-same f g zero same = refl
filter-same f g (suc n) same =
    filter_map-append f (upto n) (n ∷ [])
    ∙ ap₂ (λ l o. l ++ cons_option o []) (filter-same f g n (λ r less. same r (omega (arith, less)))) (same n (omega arith))
    ∙ sym (filter_map-append g (upto n) (n ∷ []))

any-same : (p q : ℕ → Bool) → ((r : ℕ) → p r ≡ q r) → (rs : List ℕ) → list_any p rs ≡ list_any q rs
any-same p q same [] = refl
any-same p q same (r ∷ rs) = ap₂ (λ a b. a || b) (same r) (any-same p q same rs)

-- all are told once each number leads nowhere
pub told-all : (leads left : List (Option ℕ)) (counts : List ℕ) (count : ℕ) → IsTelling leads left counts count → LeadBelow leads count → CountsAll leads counts
told-all leads left counts count t below = record {
  size = t.enough;
  each = λ v inside. t.at_told v (omega (arith, inside, t.enough)) (by v (onto left v) refl);
}
  where
    by : (v : ℕ) (o : Option ℕ) → onto left v ≡ o → o ≡ None
    by v None at = refl
    by v (Some w) at = absurd (no-some w (sym (t.passed v (below.each v w (t.led v w at))) ∙ at))

abbrev blocker-with : ℕ → Bool → ℕ → ℕ → Option Blocker
blocker-with r any all direct = if any then None else Some (record { first = r; all = all; direct = direct })

module _ (ws : List Waiter) (others : List (List ℕ)) (leads : List (Option ℕ)) (n : IsNumbered ws others leads) where
  pub lead-below : LeadBelow leads (length ws)
  lead-below = record { each = λ u v is. lead-process ws others leads n u v is }

  blocker-same : HaveOwnPids ws → (r : ℕ) → blocker_at ws r ≡ node_blocker leads r
  blocker-same own r = by (target_at ws r) refl
    where
      told : (target : List ℕ) → target_at ws r ≡ Some target → (v : ℕ) → node_of ws others target ≡ Some v → onto leads r ≡ Some v → blocker_at ws r ≡ node_blocker leads r
      told target at v is led =
          ap (option_and_then (λ t. blocker-with r (list_any (waits_for ws t) (upto r)) (all_of ws t) (direct_of ws t))) at
          ∙ ap (λ b. blocker-with r b (all_of ws target) (direct_of ws target)) (any-same (waits_for ws target) (λ q. is_to v (onto leads q)) (λ q. waits-numbered ws others leads n target v q is) (upto r))
          ∙ ap₂ (λ a d. blocker-with r (list_any (λ q. is_to v (onto leads q)) (upto r)) a d) (all-numbered ws others leads n own target v is) (direct-numbered ws others leads n target v is)
          ∙ sym (ap (option_and_then (λ w. blocker-with r (list_any (λ q. is_to w (onto leads q)) (upto r)) (all_to leads w) (tokens leads w))) led)

      by : (o : Option (List ℕ)) → target_at ws r ≡ o → blocker_at ws r ≡ node_blocker leads r
      by None at =
          ap (option_and_then (λ t. blocker-with r (list_any (waits_for ws t) (upto r)) (all_of ws t) (direct_of ws t))) at
          ∙ sym (ap (option_and_then (λ w. blocker-with r (list_any (λ q. is_to w (onto leads q)) (upto r)) (all_to leads w) (tokens leads w))) (n.none r at))
      by (Some target) at = let e = n.each r target at in told target at e.0 e.1 e.2

  circles-same : circles ws ≡ circles_below leads (length ws) (length ws)
  circles-same =
      filter-same (circle_from (next_of ws) (length ws)) (circle_from (onto leads) (length ws)) (length ws)
      (λ r less. ap (option_and_then (λ way. if list_all (nat_le r) way then Some way else None)) (way-numbered ws others leads n r less (length ws) r))

  -- what was found by numbers
  pub report-is : HaveOwnPids ws → (found : List Blocker) (on : List OnCircle) (count : ℕ) → found ≡ node_blockers leads (length ws) → on ≡ numbered 1 (circles_below leads (length ws) (length ws))
      → count ≡ length (circles_below leads (length ws) (length ws)) → (let made : WaitReport = record { blockers = found; on_circles = on; circles = count } in made ≡ wait_report ws)
  report-is own found on count is those many =
      let one : found ≡ blockers ws = is ∙ ap (most_first (λ (b : Blocker). b.all)) (sym (filter-same (blocker_at ws) (node_blocker leads) (length ws) (λ r less. blocker-same own r))) in
      let other : on ≡ numbered 1 (circles ws) = those ∙ ap (numbered 1) (sym circles-same) in
      let last : count ≡ length (circles ws) = many ∙ ap length (sym circles-same) in
      cc (one, other, last)
