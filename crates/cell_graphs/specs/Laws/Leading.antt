-- Whether a cell leads to another, as a test; and only cells of the graph lead.
use Rattle.std.proofs.Common.{◌≡◌, ℕ, zero, suc, ◌<◌, Bool, true, List, [], ◌∷◌, length, Option, None, Some, refl, ap, inl, inr, ◌∙◌, arith}
use Rattle.std.specs.Prelude.{slice_get}
use Rattle.std.specs.List.{list_any}
use Rattle.std.proofs.lemmas.Bool.{eq-eqb, eqb-true, false≢true, or_cases}
use Rattle.std.proofs.lemmas.Map.Keys.{any_passes_from_place}
use Rattle.std.proofs.lemmas.Option.{none-some}
use Rattle.cell_graphs.specs.Graphs.{Graph, Leads, places_at}
use Rattle.cell_graphs.specs.Rounds.{is_to, leads_to}

-- ---- the test

any-place : {X : Type 0} (test : X → Bool) (xs : List X) → list_any test xs ≡ true → (k : ℕ) × (x : X) × (slice_get xs k ≡ Some x) × (test x ≡ true)
any-place test [] is = absurd (false≢true is)
any-place test (x ∷ xs) is =
    elim (or_cases (test x) (list_any test xs) is) [
      | inl here ↦ (0, x, refl, here)
      | inr later ↦ let r = any-place test xs later in (suc r.0, r.1, r.2, r.3)
    ]

-- a place that passes the test leads to the cell
pub is_to-true : (n : ℕ) (place : Option ℕ) → is_to n place ≡ true → place ≡ Some n
is_to-true n None is = absurd (false≢true is)
is_to-true n (Some m) is = ap Some (eqb-true m n is)

pub to-is_to : (n : ℕ) (place : Option ℕ) → place ≡ Some n → is_to n place ≡ true
to-is_to n place is = ap (is_to n) is ∙ eq-eqb n n refl

pub leads-tested : (graph : Graph) (m n : ℕ) → Leads graph m n → leads_to graph m n ≡ true
leads-tested graph m n (k, is) = any_passes_from_place (is_to n) (places_at graph m) k (Some n) is (to-is_to n (Some n) refl)

pub tested-leads : (graph : Graph) (m n : ℕ) → leads_to graph m n ≡ true → Leads graph m n
tested-leads graph m n is =
    let p = any-place (is_to n) (places_at graph m) is in
    (p.0, p.2 ∙ ap Some (is_to-true n p.1 p.3))

-- ---- from which cells

no-place : (k : ℕ) (place : Option ℕ) → slice_get [] k ≡ Some place → ⊥
no-place zero place is = none-some place is
no-place (suc k) place is = none-some place is

pub leads-from : (graph : Graph) (m n : ℕ) → Leads graph m n → m < length graph
leads-from [] zero n (k, is) = absurd (no-place k (Some n) is)
leads-from [] (suc m) n (k, is) = absurd (no-place k (Some n) is)
leads-from (places ∷ graph) zero n leads = omega arith
leads-from (places ∷ graph) (suc m) n leads = omega (arith, leads-from graph m n leads)
