use Rattle.std.proofs.Common.{ℕ, ◌⊎◌, inl, inr}
use Rattle.cell_graphs.specs.Reached.{IsIn, Reached, root, step}
use Rattle.cell_graphs.specs.Laws.Spreading.{reached-closed, reached-more}
use Rattle.cell_graphs.proofs.laws.reached_is_least.Goals as goal

pub returns-clause-closed : goal.returns-clause-closed
returns-clause-closed c = record {
  roots = λ graph begun n is. root n is;
  closed = λ graph begun m n is leads. step m n is leads;
}

pub returns-clause-least : goal.returns-clause-least
returns-clause-least c = λ graph begun set holds closed n is. reached-closed graph (IsIn begun) (IsIn set) n is holds closed

pub returns-clause-at_once : goal.returns-clause-at_once
returns-clause-at_once c = λ graph begun set more exact n.
    let all : ℕ → Type 0 = λ k. IsIn begun k ⊎ IsIn more k in
    let now : ℕ → Type 0 = λ k. IsIn set k ⊎ IsIn more k in (
      λ is. reached-closed graph now (Reached graph all) n is
          (λ k r. elim r [ inl was ↦ reached-more graph (IsIn begun) all k (λ j h. inl h) ((exact k).0 was) | inr q ↦ root k (inr q) ])
          (λ m k r leads. step m k r leads),
      λ is. reached-more graph all now n (λ k h. elim h [ inl was ↦ inl ((exact k).1 (root k was)) | inr q ↦ inr q ]) is,
    )
