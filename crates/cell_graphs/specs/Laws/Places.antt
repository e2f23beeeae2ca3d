-- The cells to which the first places lead are added, one place at a time.
use Rattle.std.proofs.Common.{◌≡◌, ℕ, ◌+◌, ◌<◌, ◌≤◌, ◌⊎◌, length, Option, None, Some, sym, ◌∙◌, ap, subst, inl, inr, arith}
use Rattle.std.specs.Prelude.{IfSome, slice_get}
use Rattle.std.proofs.lemmas.Bool.{cases_lt}
use Rattle.std.proofs.lemmas.Option.{slice_get_within, same_Some}
use Rattle.cell_graphs.specs.Graphs.{Graph, Leads, LeadsWithin, places_at}
use Rattle.cell_graphs.specs.Frontiers.{Frontier, Adds, LeadsBy}
use Rattle.cell_graphs.specs.Laws.Adding.{Adds-then, Adds-same}

by-parts : (graph : Graph) (m i : ℕ) (place : Option ℕ) (n : ℕ) → slice_get (places_at graph m) i ≡ Some place → LeadsBy graph m (i + 1) n → LeadsBy graph m i n ⊎ (place ≡ Some n)
by-parts graph m i place n here (k, below, is) =
    elim (cases_lt k i) [
      | inl less ↦ inl (k, less, is)
      | inr past ↦
          let same : k ≡ i = omega (arith, past, below) in
          inr (same_Some place (Some n) (sym here ∙ subst (λ j. slice_get (places_at graph m) j ≡ Some (Some n)) same is))
    ]

-- with one more place of a cell, what leads from the places before it and from it has been added
pub places-next : (graph : Graph) (m i : ℕ) (place : Option ℕ) (a b c : Frontier) → slice_get (places_at graph m) i ≡ Some place → Adds a b (LeadsBy graph m i) → Adds b c (λ n. place ≡ Some n)
    → Adds a c (LeadsBy graph m (i + 1))
places-next graph m i place a b c here one two =
    Adds-then a b c (LeadsBy graph m i) (λ n. place ≡ Some n) (LeadsBy graph m (i + 1)) one two
    (λ n by. by-parts graph m i place n here by)
    (λ n (k, below, is). (k, omega (arith, below), is))
    (λ n is. (i, omega arith, here ∙ ap Some is))

-- with all places of a cell, what leads from the cell has been added
pub places-end : (graph : Graph) (m i : ℕ) (a b : Frontier) → length (places_at graph m) ≤ i → Adds a b (LeadsBy graph m i) → Adds a b (Leads graph m)
places-end graph m i a b all adds =
    Adds-same a b (LeadsBy graph m i) (Leads graph m) adds
    (λ n (k, below, is). (k, is))
    (λ n (k, is). (k, omega (arith, all, slice_get_within (places_at graph m) k (Some n) is), is))

-- the cell to which a place leads is one of the graph's
pub place-within : (graph : Graph) (m i : ℕ) (place : Option ℕ) → LeadsWithin graph → slice_get (places_at graph m) i ≡ Some place → IfSome place (λ n. n < length graph)
place-within graph m i None within here = tt
place-within graph m i (Some n) within here = within m n (i, here)
