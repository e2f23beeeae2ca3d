-- The steps of a way, written out.
use Rattle.std.proofs.Common.{◌≡◌, ℕ, zero, suc, ◌+◌, ◌<◌, ◌==◌, Bool, true, false, ◌&&◌, cond, ltb, not, List, [], ◌∷◌, ◌++◌, length, Option, None, Some, refl, sym, ◌∙◌, ap, arith}
use Rattle.std.specs.Prelude.{position, slice_index_or}
use Rattle.std.specs.List.{flat_map, position_or_len}
use Rattle.std.specs.Option.{option_map_or}
use Rattle.std.proofs.lemmas.Bool.{and_parts, eqb-true, false≢true, ltb-true}
use Rattle.std.proofs.lemmas.Option.{none-some, same_Some}
use Rattle.cell_graphs.specs.Graphs.{Graph, places_at}
use Rattle.cell_graphs.specs.Rounds.{is_to}
use Rattle.cell_graphs.specs.Laws.Leading.{is_to-true}
use Rattle.heap_skeleton.specs.Kinds.{cell_kind}
use Rattle.cell_records.specs.declared.cells.Kind.{Kind}
use Rattle.heap_ways.specs.Laws.{tail_of, tails_from, written_out}
use Rattle.heap_ways.specs.Steps.{follows, has_pairs, is_list, place_to, steps_from, with_cell, with_tail}
use Rattle.heap_ways.specs.declared.steps.Step.{Step}
use Rattle.heap_ways.specs.declared.steps.Step.TheVariants.{Cell, Tails}

-- ---- the place that was found leads there

found-passes : (test : Option ℕ → Bool) (xs : List (Option ℕ)) (i : ℕ) → position_or_len test xs ≡ i → i < length xs → test (slice_index_or xs i None) ≡ true
found-passes test [] i is inside = absurd (omega (arith, inside))
found-passes test (x ∷ xs) i is inside = by (test x) i refl is inside (λ j same less. found-passes test xs j same less)
  where
    by : (b : Bool) (i : ℕ) → test x ≡ b → cond (not b) (1 + position_or_len test xs) 0 ≡ i → i < length (x ∷ xs)
        → ((j : ℕ) → position_or_len test xs ≡ j → j < length xs → test (slice_index_or xs j None) ≡ true) → test (slice_index_or (x ∷ xs) i None) ≡ true
    by true zero passes is inside later = passes
    by true (suc i) passes is inside later = absurd (omega (arith, is))
    by false zero passes is inside later = absurd (omega (arith, is))
    by false (suc i) passes is inside later = later i (omega (arith, is)) (omega (arith, inside))

position-passes : (test : Option ℕ → Bool) (xs : List (Option ℕ)) (i : ℕ) → position test xs ≡ Some i → test (slice_index_or xs i None) ≡ true
position-passes test xs i is = by (ltb (position_or_len test xs) (length xs)) refl is
  where
    by : (b : Bool) → ltb (position_or_len test xs) (length xs) ≡ b → cond b (Some (position_or_len test xs)) None ≡ Some i → test (slice_index_or xs i None) ≡ true
    by true less same =
        let here : position_or_len test xs ≡ i = same_Some (position_or_len test xs) i same in
        found-passes test xs i here (omega (arith, ltb-true (position_or_len test xs) (length xs) less, here))
    by false less same = absurd (none-some i same)

-- ---- a list that is one of those that follow on each other is left by its tail

at-one : (place : Option ℕ) → option_map_or (λ p. p == 1) place false ≡ true → place ≡ Some 1
at-one None is = absurd (false≢true is)
at-one (Some p) is = ap Some (eqb-true p 1 is)

tail-leads : (graph : Graph) (before here next : Option Kind) (m n : ℕ) → follows before here (place_to graph m n) next ≡ true → tail_of graph m ≡ Some n
tail-leads graph before here next m n is =
    let first = and_parts (is_list here) (option_map_or (λ p. p == 1) (place_to graph m n) false && (is_list next && not (has_pairs before))) is in
    let second = and_parts (option_map_or (λ p. p == 1) (place_to graph m n) false) (is_list next && not (has_pairs before)) first.1 in
    is_to-true n (tail_of graph m) (position-passes (is_to n) (places_at graph m) 1 (at-one (place_to graph m n) second.0))

-- ---- one cell after the other, from the end on

module _ (graph : Graph) where
  abbrev all : List Step → List ℕ
  all steps = flat_map (written_out graph) steps

  tail-written : (m n : ℕ) (way : List ℕ) (steps : List Step) → tail_of graph m ≡ Some n → all steps ≡ n ∷ way → all (with_tail m steps) ≡ m ∷ n ∷ way
  tail-written m n way [] leads is = ap (λ o. (m ∷ option_map_or (tails_from graph zero) o []) ++ []) leads ∙ ap (λ l. m ∷ l) is
  tail-written m n way (Cell k place ∷ steps) leads is =
      ap (λ o. (m ∷ option_map_or (tails_from graph zero) o []) ++ all (Cell k place ∷ steps)) leads ∙ ap (λ l. m ∷ l) is
  tail-written m n way (Tails next zero ∷ steps) leads is = ap (λ o. (m ∷ option_map_or (tails_from graph zero) o []) ++ all steps) leads ∙ ap (λ l. m ∷ l) is
  tail-written m n way (Tails next (suc count) ∷ steps) leads is =
      let more = option_map_or (tails_from graph count) (tail_of graph next) [] in
      let whole : next ∷ (more ++ all steps) ≡ n ∷ way = is in
      let same : next ≡ n = cc (whole) in
      ap (λ o. (m ∷ option_map_or (tails_from graph (suc count)) o []) ++ all steps) leads
      ∙ ap (λ k. m ∷ (tails_from graph (suc count) k ++ all steps)) (sym same)
      ∙ ap (λ l. m ∷ l) is

  cell-written : (b : Bool) (m n : ℕ) (place : Option ℕ) (way : List ℕ) (steps : List Step) → (b ≡ true → tail_of graph m ≡ Some n) → all steps ≡ n ∷ way → all (with_cell b m place steps) ≡ m ∷ n ∷ way
  cell-written true m n place way steps leads is = tail-written m n way steps (leads refl) is
  cell-written false m n place way steps leads is = ap (λ l. m ∷ l) is

pub steps-written : (kinds : List (Option Kind)) (graph : Graph) (before : Option Kind) (way : List ℕ) → flat_map (written_out graph) (steps_from kinds graph before way) ≡ way
steps-written kinds graph before [] = refl
steps-written kinds graph before (n ∷ []) = refl
steps-written kinds graph before (m ∷ n ∷ way) =
    cell-written graph (follows before (cell_kind kinds m) (place_to graph m n) (cell_kind kinds n)) m n (place_to graph m n) way (steps_from kinds graph (cell_kind kinds m) (n ∷ way))
    (tail-leads graph before (cell_kind kinds m) (cell_kind kinds n) m n)
    (steps-written kinds graph (cell_kind kinds m) (n ∷ way))
