-- One turn of the loop, its end, and the least set.
use Rattle.std.proofs.Common.{◌≡◌, ℕ, Bool, ◌⊎◌, ◌↔◌, eqb, List, [], ◌∷◌, length, refl, sym, ◌∙◌, ap, subst, inl, inr}
use Rattle.std.proofs.lemmas.Bool.{false≢true, or_cases, eqb-true}
use Rattle.cell_graphs.specs.Graphs.{Graph, Leads}
use Rattle.cell_graphs.specs.Reached.{IsIn, IsClosed, Reached, root, step}
use Rattle.cell_graphs.specs.Frontiers.{Frontier, is_on, Adds, IsLooked, IsSettled}

-- what a closed set holds
pub reached-closed : (graph : Graph) (Root : ℕ → Type 0) (Set : ℕ → Type 0) (n : ℕ) → Reached graph Root n → ((k : ℕ) → Root k → Set k) → ((m k : ℕ) → Set m → Leads graph m k → Set k) → Set n
reached-closed graph Root Set _ (root n is) roots closed = roots n is
reached-closed graph Root Set _ (step m n is leads) roots closed = closed m n (reached-closed graph Root Set m is roots closed) leads

-- more roots reach more
pub reached-more : (graph : Graph) (P Q : ℕ → Type 0) (n : ℕ) → ((k : ℕ) → P k → Q k) → Reached graph P n → Reached graph Q n
reached-more graph P Q n more is = reached-closed graph P (Reached graph Q) n is (λ k p. root k (more k p)) (λ m k r leads. step m k r leads)

-- what the loop keeps
pub record Spreads (graph : Graph) (before now : Frontier) : Type 0 where
  pub size : length now.marks ≡ length graph
  pub room : now.reserved ≡ before.reserved
  pub had : (n : ℕ) → IsIn before.marks n → IsIn now.marks n
  pub looked : IsLooked graph now
  pub sound : (n : ℕ) → IsIn now.marks n → Reached graph (IsIn before.marks) n

pub spreads-first : (graph : Graph) (f : Frontier) → length f.marks ≡ length graph → IsLooked graph f → Spreads graph f f
spreads-first graph f size looked = record {
  size = size;
  room = refl;
  had = λ n is. is;
  looked = looked;
  sound = λ n is. root n is;
}

looked-next : (graph : Graph) (now left after : Frontier) (m : ℕ) → IsLooked graph now → left.marks ≡ now.marks → now.waiting ≡ m ∷ left.waiting
    → Adds left after (Leads graph m) → IsLooked graph after
looked-next graph now left after m looked same popped adds k n is leads =
    elim (adds.waits k is) [
      | inr on ↦ inl on
      | inl was ↦ elim (looked k n (subst (λ ms. IsIn ms k) same was) leads) [
        | inr marked ↦ inr (adds.had n (subst (λ ms. IsIn ms n) (sym same) marked))
        | inl on ↦ elim (or_cases (eqb k m) (is_on k left.waiting) (ap (is_on k) (sym popped) ∙ on)) [
          | inl here ↦ inr (adds.gets n (subst (λ x. Leads graph x n) (eqb-true k m here) leads))
          | inr later ↦ inl (adds.kept k later)
        ]
      ]
    ]

pub spreads-next : (graph : Graph) (before now left after : Frontier) (m : ℕ) → Spreads graph before now → left.marks ≡ now.marks → left.reserved ≡ now.reserved → now.waiting ≡ m ∷ left.waiting → IsIn now.marks m
    → Adds left after (Leads graph m) → Spreads graph before after
spreads-next graph before now left after m spreads same room popped marked adds = record {
  size = adds.cells ∙ ap length same ∙ spreads.size;
  room = adds.room ∙ room ∙ spreads.room;
  had = λ n is. adds.had n (subst (λ ms. IsIn ms n) (sym same) (spreads.had n is));
  looked = looked-next graph now left after m spreads.looked same popped adds;
  sound = λ n is. elim (adds.only n is) [
    | inl was ↦ spreads.sound n (subst (λ ms. IsIn ms n) same was)
    | inr leads ↦ step m n (spreads.sound m marked) leads
  ];
}

closed-end : (graph : Graph) (now : Frontier) → IsLooked graph now → now.waiting ≡ [] → IsClosed graph now.marks
closed-end graph now looked empty m n is leads =
    elim (looked m n is leads) [ inl on ↦ absurd (false≢true (ap (is_on m) (sym empty) ∙ on)) | inr marked ↦ marked ]

pub settled-end : (graph : Graph) (before now left : Frontier) → Spreads graph before now → before.reserved ≡ length graph → now.waiting ≡ [] → left.marks ≡ now.marks
    → left.reserved ≡ now.reserved → left.waiting ≡ [] → IsSettled graph left
settled-end graph before now left spreads exact empty same room none = record {
  size = ap length same ∙ spreads.size;
  room = room ∙ spreads.room ∙ exact;
  empty = none;
  closed = subst (IsClosed graph) (sym same) (closed-end graph now spreads.looked empty);
}

pub reached-end : (graph : Graph) (before now left : Frontier) → Spreads graph before now → now.waiting ≡ [] → left.marks ≡ now.marks → (n : ℕ) → IsIn left.marks n ↔ Reached graph (IsIn before.marks) n
reached-end graph before now left spreads empty same n = (
  λ is. spreads.sound n (subst (λ ms. IsIn ms n) same is),
  λ r. subst (λ ms. IsIn ms n) (sym same) (reached-closed graph (IsIn before.marks) (IsIn now.marks) n r spreads.had (closed-end graph now spreads.looked empty)),
)

-- a closed set and more cells that wait
pub looked-first : (graph : Graph) (old mid : Frontier) (P : ℕ → Type 0) → IsSettled graph old → Adds old mid P → IsLooked graph mid
looked-first graph old mid P settled adds m n is leads =
    elim (adds.waits m is) [ inl was ↦ inr (adds.had n (settled.closed m n was leads)) | inr on ↦ inl on ]

-- the least set over the marks is that over the marks before and the cells that were added
pub reached-root : (graph : Graph) (old mid : Frontier) (P : ℕ → Type 0) (marks : List Bool) → Adds old mid P → ((n : ℕ) → IsIn marks n ↔ Reached graph (IsIn mid.marks) n)
    → (n : ℕ) → IsIn marks n ↔ Reached graph (λ k. IsIn old.marks k ⊎ P k) n
reached-root graph old mid P marks adds exact n =
    let R : ℕ → Type 0 = λ k. IsIn old.marks k ⊎ P k in (
      λ is. reached-more graph (IsIn mid.marks) R n adds.only ((exact n).0 is),
      λ r. (exact n).1 (reached-more graph R (IsIn mid.marks) n (λ k h. elim h [ inl was ↦ adds.had k was | inr p ↦ adds.gets k p ]) r),
    )
