-- The steps of a way, from its end on.
use Rattle.std.proofs.Common.{◌≡◌, ℕ, suc, ◌+◌, ◌<◌, ◌≤◌, Bool, true, false, List, [], ◌∷◌, ◌++◌, drop, get_or, length, Option, None, Some, sym, ◌∙◌, ap, ap₂, subst, inl, inr, arith}
use Rattle.std.specs.Prelude.{reverse, slice_get}
use Rattle.std.specs.List.{AllByRecursion}
use Rattle.std.proofs.lemmas.Bool.{cases_lt}
use Rattle.std.proofs.lemmas.List.{drop_all, get_or_default, reverse-append}
use Rattle.std.proofs.lemmas.Option.{get_or_from_slice_get}
use Rattle.dump_io.specs.Laws.Lists.{drop-at, position-none}
use Rattle.cell_graphs.specs.Graphs.{Graph, places_at}
use Rattle.cell_graphs.specs.Rounds.{is_to}
use Rattle.heap_skeleton.specs.Kinds.{cell_kind}
use Rattle.cell_records.specs.declared.cells.Kind.{Kind}
use Rattle.heap_ways.specs.Steps.{follows, place_to, steps_from, with_cell, with_tail}
use Rattle.heap_ways.specs.declared.steps.Step.{Step}
use Rattle.heap_ways.specs.declared.steps.Step.TheVariants.{Cell, Tails}
use Rattle.heap_ways.specs.Inner.Kept.{step_cell}
use Rattle.heap_ways.specs.Inner.Steps.{kind_before, steps_at}

-- ---- the first place that leads to a cell

-- no place before this one leads there
abbrev pub NoneBefore : Graph → ℕ → ℕ → ℕ → Type 0
NoneBefore graph from to place = (k : ℕ) → k < place → is_to to (get_or (places_at graph from) k None) ≡ false

pub none-next : (graph : Graph) (from to place : ℕ) (lead : Option ℕ) → NoneBefore graph from to place → slice_get (places_at graph from) place ≡ Some lead → is_to to lead ≡ false
    → NoneBefore graph from to (place + 1)
none-next graph from to place lead before at other k lt =
    elim (cases_lt k place) [
      | inl less ↦ before k less
      | inr past ↦
          let same : place ≡ k = omega (arith, lt, past) in
          subst (λ i. is_to to (get_or (places_at graph from) i None) ≡ false) same
          (ap (is_to to) (get_or_from_slice_get (places_at graph from) place lead None at) ∙ other)
    ]

pub none-all : (graph : Graph) (from to place : ℕ) → NoneBefore graph from to place → length (places_at graph from) ≤ place → None ≡ place_to graph from to
none-all graph from to place before all =
    sym (position-none (is_to to) (places_at graph from)
    (λ k d inside. ap (is_to to) (get_or_default (places_at graph from) k d (None) inside) ∙ before k (omega (arith, all, inside))))

-- ---- one cell after the other

module _ (kinds : List (Option Kind)) (graph : Graph) (way : List ℕ) (i cell : ℕ) (here : slice_get way i ≡ Some cell) where
  rest : drop i way ≡ cell ∷ drop (suc i) way
  rest = let next : i + 1 ≡ suc i = omega arith in drop-at way i cell here ∙ ap (λ k. cell ∷ drop k way) next

  kind-here : kind_before kinds way (suc i) ≡ cell_kind kinds cell
  kind-here = ap (cell_kind kinds) (get_or_from_slice_get way i cell 0 here)

  -- the last cell
  pub step-last : length way ≤ suc i → steps_at kinds graph way i ≡ Cell cell None ∷ steps_at kinds graph way (suc i)
  step-last end =
      let none : drop (suc i) way ≡ [] = drop_all (suc i) way end in
      ap (steps_from kinds graph (kind_before kinds way i)) (rest ∙ ap (λ l. cell ∷ l) none)
      ∙ ap (λ l. Cell cell None ∷ steps_from kinds graph (kind_before kinds way (suc i)) l) (sym none)

  -- a cell and the next one
  pub step-next : (next : ℕ) → slice_get way (suc i) ≡ Some next
      → steps_at kinds graph way i
      ≡ with_cell (follows (kind_before kinds way i) (cell_kind kinds cell) (place_to graph cell next) (cell_kind kinds next)) cell (place_to graph cell next) (steps_at kinds graph way (suc i))
  step-next next there =
      let later : drop (suc i) way ≡ next ∷ drop (suc i + 1) way = drop-at way (suc i) next there in
      ap (steps_from kinds graph (kind_before kinds way i)) (rest ∙ ap (λ l. cell ∷ l) later)
      ∙ ap₂ (λ k l. with_cell (follows (kind_before kinds way i) (cell_kind kinds cell) (place_to graph cell next) (cell_kind kinds next)) cell (place_to graph cell next) (steps_from kinds graph k l))
      (sym kind-here) (sym later)

-- behind all cells there are no steps
pub steps-end : (kinds : List (Option Kind)) (graph : Graph) (way : List ℕ) → steps_at kinds graph way (length way) ≡ []
steps-end kinds graph way = ap (steps_from kinds graph (kind_before kinds way (length way))) (drop_all (length way) way (omega arith))

-- a step before those that are kept with the last first
pub pushed-first : (steps steps' : List Step) (step : Step) → steps' ≡ steps ++ step ∷ [] → reverse steps' ≡ step ∷ reverse steps
pushed-first steps steps' step is = ap reverse is ∙ reverse-append steps (step ∷ [])

-- a cell that was put before the steps of the cells behind it
pub step-pushed : (kinds : List (Option Kind)) (graph : Graph) (way : List ℕ) (i cell next : ℕ) (before here there : Option Kind) (place : Option ℕ) (is_tail : Bool) (steps : List Step)
    → slice_get way i ≡ Some cell → slice_get way (i + 1) ≡ Some next → before ≡ kind_before kinds way i → slice_get kinds cell ≡ Some here → slice_get kinds next ≡ Some there
    → place ≡ place_to graph cell next → is_tail ≡ follows before here place there → steps ≡ steps_at kinds graph way (i + 1) → with_cell is_tail cell place steps ≡ steps_at kinds graph way i
step-pushed kinds graph way i cell next before here there place is_tail steps at behind before_is here_is there_is place_is tail_is steps_are =
    let one : i + 1 ≡ suc i = omega arith in
    let after : slice_get way (suc i) ≡ Some next = subst (λ k. slice_get way k ≡ Some next) one behind in
    let kind_is : here ≡ cell_kind kinds cell = sym (get_or_from_slice_get kinds cell here None here_is) in
    let kind_there : there ≡ cell_kind kinds next = sym (get_or_from_slice_get kinds next there None there_is) in
    let rest : steps ≡ steps_at kinds graph way (suc i) = steps_are ∙ ap (steps_at kinds graph way) one in
    let tail : is_tail ≡ follows (kind_before kinds way i) (cell_kind kinds cell) (place_to graph cell next) (cell_kind kinds next) =
    tail_is
    ∙ ap (λ b. follows b here place there) before_is
    ∙ ap (λ k. follows (kind_before kinds way i) k place there) kind_is
    ∙ ap (λ p. follows (kind_before kinds way i) (cell_kind kinds cell) p there) place_is
    ∙ ap (λ k. follows (kind_before kinds way i) (cell_kind kinds cell) (place_to graph cell next) k) kind_there in
    ap (λ b. with_cell b cell place steps) tail
    ∙ ap (λ p. with_cell (follows (kind_before kinds way i) (cell_kind kinds cell) (place_to graph cell next) (cell_kind kinds next)) cell p steps) place_is
    ∙ ap (with_cell (follows (kind_before kinds way i) (cell_kind kinds cell) (place_to graph cell next) (cell_kind kinds next)) cell (place_to graph cell next)) rest
    ∙ sym (step-next kinds graph way i cell at next after)

-- the last cell was put before no steps
pub last-pushed : (kinds : List (Option Kind)) (graph : Graph) (way : List ℕ) (i cell : ℕ) (steps steps' : List Step) → slice_get way i ≡ Some cell → length way ≤ i + 1
    → reverse steps ≡ steps_at kinds graph way (i + 1) → steps' ≡ steps ++ Cell cell None ∷ [] → reverse steps' ≡ steps_at kinds graph way i
last-pushed kinds graph way i cell steps steps' at end were pushed =
    let one : i + 1 ≡ suc i = omega arith in
    pushed-first steps steps' (Cell cell None) pushed
    ∙ ap (λ l. Cell cell None ∷ l) (were ∙ ap (steps_at kinds graph way) one)
    ∙ sym (step-last kinds graph way i cell at (omega (arith, end)))

-- ---- the cells of steps

tails-in : (P : ℕ → Type 0) (cell : ℕ) (steps : List Step) → P cell → AllByRecursion (λ st. P (step_cell st)) steps → AllByRecursion (λ st. P (step_cell st)) (with_tail cell steps)
tails-in P cell [] p all = (p, tt)
tails-in P cell (Tails next count ∷ steps) p all = (p, all.1)
tails-in P cell (Cell n place ∷ steps) p all = (p, all)

cell-in : (P : ℕ → Type 0) (is_tail : Bool) (cell : ℕ) (place : Option ℕ) (steps : List Step) → P cell → AllByRecursion (λ st. P (step_cell st)) steps
    → AllByRecursion (λ st. P (step_cell st)) (with_cell is_tail cell place steps)
cell-in P true cell place steps p all = tails-in P cell steps p all
cell-in P false cell place steps p all = (p, all)

-- what holds of the cells of a way holds of those of its steps
pub steps-in : (P : ℕ → Type 0) (kinds : List (Option Kind)) (graph : Graph) (before : Option Kind) (way : List ℕ) → AllByRecursion P way
    → AllByRecursion (λ st. P (step_cell st)) (steps_from kinds graph before way)
steps-in P kinds graph before [] all = tt
steps-in P kinds graph before (n ∷ []) all = (all.0, tt)
steps-in P kinds graph before (m ∷ n ∷ way) all =
    cell-in P (follows before (cell_kind kinds m) (place_to graph m n) (cell_kind kinds n)) m (place_to graph m n) (steps_from kinds graph (cell_kind kinds m) (n ∷ way)) all.0
    (steps-in P kinds graph (cell_kind kinds m) (n ∷ way) all.1)
