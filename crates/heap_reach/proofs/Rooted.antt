-- What one root after the others reaches is what all of them reach.
use Rattle.std.proofs.Common.{◌≡◌, ℕ, Bool, true, false, ◌||◌, ◌↔◌, List, [], ◌∷◌, ◌++◌, refl, sym, ◌∙◌, ap, inl, inr}
use Rattle.std.proofs.lemmas.Bool.{eq-eqb, eqb-true, false≢true, or_cases, or_left, or_right}
use Rattle.std.proofs.lemmas.List.Folds.{list_any-append}
use Rattle.dump_io.specs.Laws.Lists.{same-bools}
use Rattle.term_forms.specs.Elements.{Element}
use Rattle.heap_cells.specs.Cells.{Cell}
use Rattle.heap_cells.specs.HeapMap.{HeapMap}
use Rattle.heap_cells.specs.Targets.{Target, At, target}
use Rattle.cell_graphs.specs.Graphs.{Graph, LeadsWithin, graph_of}
use Rattle.cell_graphs.specs.Reached.{is_in, IsIn, Reached, root, step}
use Rattle.cell_graphs.specs.Laws.HeapGraphs.{heap-within}
use Rattle.heap_reach.specs.Reached.{Begun, Reaching}
use Rattle.heap_reach.specs.Rounds.{is_at, is_referred, reached_by, IsReachOf}
use Rattle.cell_graphs.specs.Laws.Closing.{found-reached, reached-found}
use Rattle.cell_graphs.specs.Laws.Spreading.{reached-closed, reached-more}

not-true : (b : Bool) → (b ≡ true → ⊥) → b ≡ false
not-true true other = absurd (other refl)
not-true false other = refl

is_at-true : (n : ℕ) (t : Target) → is_at n t ≡ true → t ≡ At n
is_at-true n (At m) is = ap At (eqb-true m n is)
is_at-true n t is = absurd (false≢true is)

at-is_at : (n : ℕ) (t : Target) → t ≡ At n → is_at n t ≡ true
at-is_at n t is = ap (is_at n) is ∙ eq-eqb n n refl

module _ (cells : List Cell) where
  abbrev graph : Graph
  graph = graph_of cells

  within : LeadsWithin graph
  within = heap-within cells

  -- no root reaches a cell
  none-reached : (n : ℕ) → reached_by cells [] n ≡ true → ⊥
  none-reached n is =
      reached-closed graph (λ k. is_referred cells [] k ≡ true) (λ k. ⊥) n (found-reached graph (is_referred cells []) n is) (λ k referred. false≢true referred) (λ m k none leads. none)

  module _ (marks : List Bool) (roots : List Element) (e : Element) (exact : (k : ℕ) → is_in marks k ≡ reached_by cells roots k) where
    abbrev all : List Element
    all = roots ++ e ∷ []

    referred-parts : (k : ℕ) → is_referred cells all k ≡ (is_referred cells roots k || (is_at k (target cells e) || false))
    referred-parts k = list_any-append (λ r. is_at k (target cells r)) roots (e ∷ [])

    referred-before : (k : ℕ) → is_referred cells roots k ≡ true → is_referred cells all k ≡ true
    referred-before k is = referred-parts k ∙ or_left (is_referred cells roots k) (is_at k (target cells e) || false) is

    referred-last : (k : ℕ) → target cells e ≡ At k → is_referred cells all k ≡ true
    referred-last k is =
        referred-parts k
        ∙ or_right (is_referred cells roots k) (is_at k (target cells e) || false) (or_left (is_at k (target cells e)) false (at-is_at k (target cells e) is))

    begun-reached : (k : ℕ) → Begun cells marks e k → Reached graph (λ j. is_referred cells all j ≡ true) k
    begun-reached k (inl was) =
        reached-more graph (λ j. is_referred cells roots j ≡ true) (λ j. is_referred cells all j ≡ true) k referred-before
        (found-reached graph (is_referred cells roots) k (sym (exact k) ∙ was))
    begun-reached k (inr is) = root k (referred-last k is)

    referred-begun : (k : ℕ) → is_referred cells all k ≡ true → Begun cells marks e k
    referred-begun k is =
        elim (or_cases (is_referred cells roots k) (is_at k (target cells e) || false) (sym (referred-parts k) ∙ is)) [
          | inl before ↦ inl (exact k ∙ reached-found graph (is_referred cells roots) within k (root k before))
          | inr last ↦ elim (or_cases (is_at k (target cells e)) false last) [
            | inl here ↦ inr (is_at-true k (target cells e) here)
            | inr none ↦ absurd (false≢true none)
          ]
        ]

    one-more : (n : ℕ) (b : Bool) → ((b ≡ true) ↔ Reached graph (Begun cells marks e) n) → b ≡ reached_by cells all n
    one-more n b reached =
        same-bools b (reached_by cells all n)
        (λ is. reached-found graph (is_referred cells all) within n
        (reached-closed graph (Begun cells marks e) (Reached graph (λ j. is_referred cells all j ≡ true)) n (reached.0 is) begun-reached (λ m k r leads. step m k r leads)))
        (λ is. reached.1 (reached-more graph (λ j. is_referred cells all j ≡ true) (Begun cells marks e) n referred-begun (found-reached graph (is_referred cells all) n is)))

-- where no cell is marked
pub IsReachOf-none : (reach : Reaching) → ((n : ℕ) → is_in reach.marks n ≡ false) → IsReachOf reach []
IsReachOf-none reach none n = none n ∙ sym (not-true (reached_by reach.heap.cells [] n) (none-reached reach.heap.cells n))

-- one root more
pub IsReachOf-more : (old new : Reaching) (roots : List Element) (e : Element) → new.heap ≡ old.heap
    → ((n : ℕ) → IsIn new.marks n ↔ Reached (graph_of old.heap.cells) (Begun old.heap.cells old.marks e) n) → IsReachOf old roots → IsReachOf new (roots ++ e ∷ [])
IsReachOf-more old new roots e same reached exact n =
    one-more old.heap.cells old.marks roots e exact n (is_in new.marks n) (reached n)
    ∙ ap (λ (h : HeapMap). reached_by h.cells (roots ++ e ∷ []) n) (sym same)
