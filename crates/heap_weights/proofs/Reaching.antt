-- What one root reaches, over a closed set and alone.
use Rattle.std.proofs.Common.{◌≡◌, ℕ, ◌==◌, true, ◌⊎◌, ◌↔◌, inl, inr}
use Rattle.std.proofs.lemmas.Bool.{eq-eqb, eqb-true}
use Rattle.cell_graphs.specs.Graphs.{Graph, Leads, LeadsWithin}
use Rattle.cell_graphs.specs.Reached.{Reached, root, step}
use Rattle.cell_graphs.specs.Laws.Closing.{found-reached, reached-found}
use Rattle.cell_graphs.specs.Laws.Spreading.{reached-closed, reached-more}
use Rattle.heap_weights.specs.Parts.{reached_at}

module _ (graph : Graph) (within : LeadsWithin graph) (top : ℕ) where
  -- the root
  abbrev IsRoot : ℕ → Type 0
  IsRoot k = k ≡ top

  pub reached-value : (n : ℕ) → Reached graph (λ k. k ≡ top) n → reached_at graph top n ≡ true
  reached-value n is = reached-found graph (λ k. k == top) within n (reached-more graph IsRoot (λ k. (k == top) ≡ true) n (λ k same. eq-eqb k top same) is)

  pub value-reached : (n : ℕ) → reached_at graph top n ≡ true → Reached graph (λ k. k ≡ top) n
  value-reached n is = reached-more graph (λ k. (k == top) ≡ true) IsRoot n (λ k same. eqb-true k top same) (found-reached graph (λ k. k == top) n is)

  -- with a cell it reaches each to which that leads
  pub reached-on : (m n : ℕ) → reached_at graph top m ≡ true → Leads graph m n → reached_at graph top n ≡ true
  reached-on m n is leads = reached-value n (step m n (value-reached m is) leads)

  -- a closed set and the root reach the set, and what the root reaches
  module _ (Set : ℕ → Type 0) (closed : (m n : ℕ) → Set m → Leads graph m n → Set n) where
    both-parts : (n : ℕ) → Reached graph (λ k. Set k ⊎ IsRoot k) n → Set n ⊎ (reached_at graph top n ≡ true)
    both-parts n is =
        reached-closed graph (λ k. Set k ⊎ IsRoot k) (λ k. Set k ⊎ (reached_at graph top k ≡ true)) n is
        (λ k begun. elim begun [ inl was ↦ inl was | inr here ↦ inr (reached-value k (root k here)) ])
        (λ m k has leads. elim has [ inl was ↦ inl (closed m k was leads) | inr reached ↦ inr (reached-on m k reached leads) ])

    parts-both : (n : ℕ) → Set n ⊎ (reached_at graph top n ≡ true) → Reached graph (λ k. Set k ⊎ IsRoot k) n
    parts-both n (inl was) = root n (inl was)
    parts-both n (inr reached) = reached-more graph IsRoot (λ k. Set k ⊎ IsRoot k) n (λ k here. inr here) (value-reached n reached)

    pub reached-both : (n : ℕ) → Reached graph (λ k. Set k ⊎ (k ≡ top)) n ↔ (Set n ⊎ (reached_at graph top n ≡ true))
    reached-both n = (both-parts n, parts-both n)
