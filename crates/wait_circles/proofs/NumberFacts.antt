-- The numbers of targets as they come.
use Rattle.std.proofs.Common.{◌≡◌, ℕ, zero, suc, ◌+◌, ◌-◌, ◌<◌, inl, inr, List, [], ◌∷◌, ◌++◌, length, get_or, Option, None, Some, refl, sym, ◌∙◌, ap, subst, arith, length-append}
use Rattle.std.specs.Prelude.{bytes_eq, option_map, replicate}
use Rattle.std.specs.Option.{option_or}
use Rattle.std.proofs.lemmas.Bool.{cases_eq, cases_lt}
use Rattle.std.proofs.lemmas.List.{get_or_append_left, get_or-append_right, get_or_past, get_or_push, length_push, length-replicate}
use Rattle.std.proofs.lemmas.List.Quantifiers.{position-Some}
use Rattle.dump_io.specs.Laws.Lists.{position-at}
use Rattle.std.proofs.lemmas.Option.{slice_get-get_or}
use Rattle.text_groups.specs.Numbers.{IsGrown, number_in}
use Rattle.wait_circles.specs.Waiters.{Waiter, process_of, target_at}
use Rattle.wait_circles.specs.Inner.Leading.{onto, LeadWithin}
use Rattle.wait_circles.specs.Inner.Numbering.{AreNumbered, IsLead, IsNumbered, node_of}
use Rattle.wait_circles.proofs.LeadFacts.{no-some}
use Rattle.wait_circles.proofs.ComingFacts.{lead-target, node-parts, process-pid}

-- the number of a text stays where more texts come
number-grown : (old more : List (List ℕ)) (text : List ℕ) (k : ℕ) → number_in old text ≡ Some k → number_in (old ++ more) text ≡ Some k
number-grown old more text k is =
    let at = position-Some (bytes_eq text) old k [] is in
    let inside : k < length (old ++ more) = omega (arith, at.0, length-append old more) in
    let same : (i : ℕ) → i < length old → get_or (old ++ more) i [] ≡ get_or old i [] = λ i less. get_or_append_left old more [] i less in
    position-at (bytes_eq text) (old ++ more) [] k (get_or (old ++ more) k [])
    (λ i less. ap (bytes_eq text) (same i (omega (arith, less, at.0))) ∙ at.2 i less)
    (slice_get-get_or (old ++ more) k [] inside)
    (ap (bytes_eq text) (same k at.0) ∙ at.1)

node-grown : (ws : List Waiter) (old new : List (List ℕ)) → IsGrown old new → (target : List ℕ) (v : ℕ) → node_of ws old target ≡ Some v → node_of ws new target ≡ Some v
node-grown ws old new grown target v is = by (process_of ws target) refl (number_in old target) refl is
  where
    by : (o : Option ℕ) → process_of ws target ≡ o → (n : Option ℕ) → number_in old target ≡ n → option_or o (option_map (λ k. length ws + k) n) ≡ Some v → option_or o (option_map (λ k. length ws + k) (number_in new target)) ≡ Some v
    by (Some s) at n other is = is
    by None at None other is = absurd (no-some v is)
    by None at (Some k) other is = ap (option_map (λ n. length ws + n)) (ap (λ l. number_in l target) grown.are ∙ number-grown old grown.more target k other) ∙ is

lead-grown : (ws : List Waiter) (old new : List (List ℕ)) → IsGrown old new → (r : ℕ) (o : Option ℕ) → IsLead ws old r o → IsLead ws new r o
lead-grown ws old new grown r None is = is
lead-grown ws old new grown r (Some v) is = (is.0, is.1, node-grown ws old new grown is.0 v is.2)

pub AreNumbered-none : (ws : List Waiter) (others : List (List ℕ)) (leads : List (Option ℕ)) → leads ≡ [] → AreNumbered ws others leads 0
AreNumbered-none ws others leads none = record { size = ap length none; each = λ r less. absurd (omega (arith, less)) }

pub AreNumbered-more : (ws : List Waiter) (old new : List (List ℕ)) (leads more : List (Option ℕ)) (lead : Option ℕ) (count : ℕ) → AreNumbered ws old leads count → IsGrown old new → IsLead ws new count lead
    → more ≡ leads ++ lead ∷ [] → AreNumbered ws new more (count + 1)
AreNumbered-more ws old new leads more lead count are grown one is = subst (λ l. AreNumbered ws new l (count + 1)) (sym is) (record {
  size = length_push leads lead ∙ ap (λ n. n + 1) are.size;
  each = λ r less.
      elim (cases_eq r count) [
        | inl same ↦ subst (IsLead ws new r) (sym (ap (onto (leads ++ lead ∷ [])) same ∙ get_or_push leads lead None count are.size)) (subst (λ k. IsLead ws new k lead) (sym same) one)
        | inr other ↦
            let before : r < count = omega (arith, less, other) in
            subst (IsLead ws new r) (sym (get_or_append_left leads (lead ∷ []) None r (omega (arith, before, are.size)))) (lead-grown ws old new grown r (onto leads r) (are.each r before))
      ];
})

-- all targets have their numbers, and those behind lead nowhere
pub IsNumbered-all : (ws : List Waiter) (others : List (List ℕ)) (leads all : List (Option ℕ)) (n : ℕ) → AreNumbered ws others leads (length ws) → all ≡ leads ++ replicate n None → n ≡ length others → IsNumbered ws others all
IsNumbered-all ws others leads all n are is count = subst (IsNumbered ws others) (sym is) (record {
  size = length-append leads (replicate n None) ∙ (let none : Option ℕ = None in omega (arith, length-replicate n none, are.size, count));
  each = λ r target at. told r (below r target at) target at (onto leads r) refl (are.each r (below r target at));
  none = λ r at. elim (cases_lt r (length ws)) [
    | inl less ↦ get_or_append_left leads (replicate n None) None r (omega (arith, less, are.size)) ∙ none-told r at (onto leads r) refl (are.each r less)
    | inr past ↦ get_or-append_right leads (replicate n None) (length ws) r None are.size past ∙ past-none n (r - length ws)
  ];
})
  where
    below : (r : ℕ) (target : List ℕ) → target_at ws r ≡ Some target → r < length ws
    below r target at =
        elim (cases_lt r (length ws)) [
          | inl less ↦ less
          | inr past ↦ absurd (no-some target (sym (ap (λ (w : Waiter). w.target) (get_or_past ws r (record { pid = []; target = None }) past)) ∙ at))
        ]

    told : (r : ℕ) → r < length ws → (target : List ℕ) → target_at ws r ≡ Some target → (o : Option ℕ) → onto leads r ≡ o → IsLead ws others r o
        → (v : ℕ) × (node_of ws others target ≡ Some v) × (onto (leads ++ replicate n None) r ≡ Some v)
    told r less target at None led lead = absurd (no-some target (sym lead ∙ at))
    told r less target at (Some v) led lead =
        let same : Some lead.0 ≡ Some target = sym lead.1 ∙ at in
        let is : lead.0 ≡ target = cc (same) in
        (v, subst (λ t. node_of ws others t ≡ Some v) is lead.2, get_or_append_left leads (replicate n None) None r (omega (arith, less, are.size)) ∙ led)

    none-told : (r : ℕ) → target_at ws r ≡ None → (o : Option ℕ) → onto leads r ≡ o → IsLead ws others r o → o ≡ None
    none-told r at None led lead = refl
    none-told r at (Some v) led lead = absurd (no-some lead.0 (sym at ∙ lead.1))

    past-none : (n i : ℕ) → ◌≡◌ {A = Option ℕ} (get_or (replicate n None) i None) None
    past-none zero i = refl
    past-none (suc n) zero = refl
    past-none (suc n) (suc i) = past-none n i

-- each number is one of them
pub within-numbered : (ws : List Waiter) (others : List (List ℕ)) (leads : List (Option ℕ)) → IsNumbered ws others leads → LeadWithin leads (length leads)
within-numbered ws others leads n = record { each = each }
  where
    each : (u v : ℕ) → onto leads u ≡ Some v → v < length leads
    each u v is =
        let t = lead-target ws others leads n u v is in
        elim (node-parts ws others t.0 v t.2) [
          | inl process ↦ (let at = process-pid ws t.0 v process in omega (arith, at.0, n.size))
          | inr behind ↦ (let at = position-Some (bytes_eq t.0) others behind.1 [] behind.2 in omega (arith, at.0, behind.3, n.size))
        ]
