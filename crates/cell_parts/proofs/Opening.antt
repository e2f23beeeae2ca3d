-- What opens, and how often.
use Rattle.std.proofs.Common.{◌≡◌, ℕ, zero, suc, ◌+◌, ◌<◌, ◌≤◌, ◌⊎◌, Bool, true, false, not, ◌&&◌, ◌||◌, nat_eq, List, [], ◌∷◌, ◌++◌, length, set, get_or, Option, None, Some, refl, sym, ◌∙◌, ap, subst, inl, inr, arith}
use Rattle.std.specs.Prelude.{if◌then◌else◌}
use Rattle.std.specs.Option.{option_map_or}
use Rattle.std.proofs.lemmas.Bool.{and_parts, cases_eq, cases_lt, eq-eqb, false≢true, ne_eqb, not-true}
use Rattle.std.proofs.lemmas.List.{get_or_past, get_or-set_other, get_or-set_same, length-set}
use Rattle.std.proofs.lemmas.Option.{cond_some, option_and_then_some}
use Rattle.cell_records.specs.declared.cells.Kind.{Kind}
use Rattle.cell_records.specs.declared.cells.Kind.TheVariants as kind
use Rattle.cell_graphs.specs.Counts.{count_below, one_if}
use Rattle.cell_graphs.specs.Graphs.{Graph}
use Rattle.cell_graphs.specs.Laws.Closing.{count-most}
use Rattle.cell_graphs.specs.Frontiers.{is_on}
use Rattle.cell_parts.specs.Elements.{Spot, weighed_leads, leads_on, opened_at, spots_of, weighed, weighed_at}
use Rattle.heap_skeleton.specs.Kinds.{cell_kind}
use Rattle.cell_parts.specs.Inner.Walking.{AreMarked, unpassed}

-- ---- how many cells weren't passed

below-same : (n m : ℕ) (passed : List ℕ) → n ≤ m → count_below (λ k. not (is_on k (m ∷ passed))) n ≡ count_below (λ k. not (is_on k passed)) n
below-same zero m passed less = refl
below-same (suc n) m passed less =
    let other : nat_eq n m ≡ false = ne_eqb n m (λ same. omega (arith, same, less)) in
    ap (λ c. c + one_if (not (nat_eq n m || is_on n passed))) (below-same n m passed (omega (arith, less)))
    ∙ ap (λ b. count_below (λ k. not (is_on k passed)) n + one_if (not (b || is_on n passed))) other

below-less : (n m : ℕ) (passed : List ℕ) → m < n → is_on m passed ≡ false → count_below (λ k. not (is_on k (m ∷ passed))) n + 1 ≡ count_below (λ k. not (is_on k passed)) n
below-less zero m passed less new = absurd (omega (arith, less))
below-less (suc n) m passed less new = elim (cases_eq n m) [
  | inl same ↦
      let here : one_if (not (nat_eq n m || is_on n passed)) ≡ 0 = ap (λ b. one_if (not (b || is_on n passed))) (eq-eqb n m same) in
      let there : one_if (not (is_on n passed)) ≡ 1 = ap (λ k. one_if (not (is_on k passed))) same ∙ ap (λ b. one_if (not b)) new in
      omega (arith, here, there, below-same n m passed (omega (arith, same)))
  | inr other ↦
      let here : one_if (not (nat_eq n m || is_on n passed)) ≡ one_if (not (is_on n passed)) = ap (λ b. one_if (not (b || is_on n passed))) (ne_eqb n m other) in
      omega (arith, here, below-less n m passed (omega (arith, less, other)) new)
]

-- ---- what opens

leads-none : (k : Option Kind) (place : ℕ) → leads_on k place None ≡ false
leads-none None place = refl
leads-none (Some kind.List) place = refl
leads-none (Some k) place = refl

kind-within : (kinds : List (Option Kind)) (k : Option Kind) (place m : ℕ) → leads_on k place (cell_kind kinds m) ≡ true → m < length kinds
kind-within kinds k place m leads = elim (cases_lt m (length kinds)) [
  | inl less ↦ less
  | inr past ↦ absurd (false≢true (sym (leads-none k place) ∙ ap (leads_on k place) (sym (get_or_past kinds m None (omega (arith, past)))) ∙ leads))
]

module _ (kinds : List (Option Kind)) (passed : List ℕ) (spot : Spot) where
  pub opened-parts : (m : ℕ) → opened_at kinds passed spot ≡ Some m → (m < length kinds) × (is_on m passed ≡ false)
  opened-parts m is =
      option_and_then_some (λ n. if leads_on spot.kind spot.place (cell_kind kinds n) && not (is_on n passed) then Some n else None) spot.lead m is
      (λ n lead opens.
      let told = cond_some (leads_on spot.kind spot.place (cell_kind kinds n) && not (is_on n passed)) n m opens in
      let both = and_parts (leads_on spot.kind spot.place (cell_kind kinds n)) (not (is_on n passed)) told.0 in
      subst (λ k. (k < length kinds) × (is_on k passed ≡ false)) told.1
      (kind-within kinds spot.kind spot.place n both.0, not-true (is_on n passed) both.1))

  -- a cell more is passed
  pub unpassed-less : (m : ℕ) → opened_at kinds passed spot ≡ Some m → unpassed kinds (m ∷ passed) + 1 ≡ unpassed kinds passed
  unpassed-less m is = below-less (length kinds) m passed (opened-parts m is).0 (opened-parts m is).1

opened-cases : (o : Option ℕ) → (o ≡ None) ⊎ ((m : ℕ) × (o ≡ Some m))
opened-cases None = inl refl
opened-cases (Some m) = inr (m, refl)

-- ---- what is weighed

module _ (kinds : List (Option Kind)) (graph : Graph) (passed : List ℕ) (spot : Spot) (spots : List Spot) where
  pub weighed-none : (n : ℕ) → opened_at kinds passed spot ≡ None
      → weighed_at n kinds graph passed (spot ∷ spots) ≡ weighed spot.kind spot.lead ++ weighed_at n kinds graph passed spots
  weighed-none zero none = refl
  weighed-none (suc n) none =
      ap (λ o. option_map_or (λ m. weighed_at n kinds graph (m ∷ passed) (spots_of kinds graph m ++ spots)) o (weighed spot.kind spot.lead ++ weighed_at (suc n) kinds graph passed spots)) none

  pub weighed-some : (n m : ℕ) → opened_at kinds passed spot ≡ Some m
      → weighed_at (n + 1) kinds graph passed (spot ∷ spots) ≡ weighed_at n kinds graph (m ∷ passed) (spots_of kinds graph m ++ spots)
  weighed-some n m is =
      let next : n + 1 ≡ suc n = omega arith in
      ap (λ k. weighed_at k kinds graph passed (spot ∷ spots)) next
      ∙ ap (λ o. option_map_or (λ k. weighed_at n kinds graph (k ∷ passed) (spots_of kinds graph k ++ spots)) o (weighed spot.kind spot.lead ++ weighed_at (suc n) kinds graph passed spots)) is

-- a bound that is large enough cuts nothing off
enough : (n more : ℕ) (kinds : List (Option Kind)) (graph : Graph) (passed : List ℕ) (spots : List Spot) → unpassed kinds passed ≤ n
    → weighed_at (n + more) kinds graph passed spots ≡ weighed_at n kinds graph passed spots
enough n more kinds graph passed [] room = refl
enough zero more kinds graph passed (spot ∷ spots) room = elim (opened-cases (opened_at kinds passed spot)) [
  | inl none ↦
      weighed-none kinds graph passed spot spots (0 + more) none
      ∙ ap (λ ls. weighed spot.kind spot.lead ++ ls) (enough zero more kinds graph passed spots room)
      ∙ sym (weighed-none kinds graph passed spot spots 0 none)
  | inr some ↦ absurd (omega (arith, room, unpassed-less kinds passed spot some.0 some.1))
]
enough (suc n) more kinds graph passed (spot ∷ spots) room = elim (opened-cases (opened_at kinds passed spot)) [
  | inl none ↦
      weighed-none kinds graph passed spot spots (suc n + more) none
      ∙ ap (λ ls. weighed spot.kind spot.lead ++ ls) (enough (suc n) more kinds graph passed spots room)
      ∙ sym (weighed-none kinds graph passed spot spots (suc n) none)
  | inr some ↦
      let m : ℕ = some.0 in
      let longer : suc n + more ≡ n + more + 1 = omega arith in
      let shorter : n + 1 ≡ suc n = omega arith in
      ap (λ k. weighed_at k kinds graph passed (spot ∷ spots)) longer
      ∙ weighed-some kinds graph passed spot spots (n + more) m some.1
      ∙ enough n more kinds graph (m ∷ passed) (spots_of kinds graph m ++ spots) (omega (arith, room, unpassed-less kinds passed spot m some.1))
      ∙ sym (weighed-some kinds graph passed spot spots n m some.1)
      ∙ ap (λ k. weighed_at k kinds graph passed (spot ∷ spots)) shorter
]

pub never-more : (kinds : List (Option Kind)) (graph : Graph) (cell more : ℕ)
    → weighed_at (length kinds + more) kinds graph (cell ∷ []) (spots_of kinds graph cell) ≡ weighed_leads kinds graph cell
never-more kinds graph cell more =
    enough (length kinds) more kinds graph (cell ∷ []) (spots_of kinds graph cell) (count-most (λ k. not (is_on k (cell ∷ []))) (length kinds))

-- ---- the cells that were passed

pub marked-more : (marks : List Bool) (passed : List ℕ) (m : ℕ) → AreMarked marks passed → m < length marks → AreMarked (set marks m true) (m ∷ passed)
marked-more marks passed m are within n inside = elim (cases_eq n m) [
  | inl same ↦
      subst (λ k. get_or (set marks m true) k false ≡ (nat_eq k m || is_on k passed)) (sym same)
      (get_or-set_same marks m true false within ∙ ap (λ b. b || is_on m passed) (sym (eq-eqb m m refl)))
  | inr other ↦
      get_or-set_other marks m n true false other ∙ are n (omega (arith, inside, length-set marks m true))
      ∙ ap (λ b. b || is_on n passed) (sym (ne_eqb n m other))
]
