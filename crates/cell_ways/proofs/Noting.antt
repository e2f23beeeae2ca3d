-- From which cells ways come, one cell after the other; and what was found of all.
use Rattle.std.proofs.Common.{◌≡◌, ℕ, zero, suc, ◌+◌, ◌<◌, Bool, ◌&&◌, List, [], ◌∷◌, ◌++◌, length, Option, None, Some, refl, ◌∙◌, ap, ap₂, subst, arith}
use Rattle.std.specs.Prelude.{All}
use Rattle.std.specs.Option.{option_map_or}
use Rattle.std.proofs.lemmas.List.Elements.{All-cons, All-nil, All-push}
use Rattle.cell_graphs.specs.Graphs.{Graph}
use Rattle.cell_graphs.specs.Rounds.{leads_to}
use Rattle.cell_ways.specs.Depths.{came_from, depth_of, is_next, way_by, way_to}
use Rattle.cell_ways.specs.Ways.{at_cell, AreWays, WayMap}
use Rattle.cell_ways.specs.Inner.Search.{is_before, or_given, AreDepths, AreNoted, Gives}
use Rattle.cell_ways.proofs.Least.{least-found, least-same}

-- one cell more
pub noted-next : (graph : Graph) (depths : List ℕ) (cell : ℕ) (old mid new : List ℕ) → AreNoted graph depths cell old → mid ≡ old → Gives mid new cell (λ n. is_before depths cell n && leads_to graph cell n)
    → AreNoted graph depths (cell + 1) new
noted-next graph depths cell old mid new was same given =
    let gives = subst (λ ns. Gives ns new cell (λ n. is_before depths cell n && leads_to graph cell n)) same given in
    let next : suc cell ≡ cell + 1 = omega arith in
    subst (λ count. AreNoted graph depths count new) next (record {
      size = gives.size ∙ was.size;
      each = λ n inside.
          gives.each n (omega (arith, inside, was.size))
          ∙ ap (or_given cell (is_before depths cell n && leads_to graph cell n)) (was.each n inside);
    })

-- what was found is what the definitions say
pub ways-are : (graph : Graph) (begun : ℕ → Bool) (depths befores : List ℕ) → AreDepths graph begun depths → AreNoted graph depths (length graph) befores
    → AreWays graph begun (record { depths = depths; befores = befores })
ways-are graph begun depths befores are noted = record {
  size = are.size;
  depths = are.each;
  befores = λ n inside.
      noted.each n inside
      ∙ least-same (λ m. is_before depths m n && leads_to graph m n) (λ m. is_next (depth_of graph begun m) (depth_of graph begun n) && leads_to graph m n) (length graph)
      (λ m within. ap₂ (λ a b. is_next a b && leads_to graph m n) (are.each m within) (are.each n inside));
}

-- a way goes along cells of the graph
came-within : (graph : Graph) (begun : ℕ → Bool) (n m : ℕ) → came_from graph begun n ≡ Some m → m < length graph
came-within graph begun n m is =
    let l = least-found (λ k. is_next (depth_of graph begun k) (depth_of graph begun n) && leads_to graph k n) (length graph) m is in l.below

-- so all its cells are
way-in : (graph : Graph) (begun : ℕ → Bool) (steps n : ℕ) → n < length graph → All (λ k. k < length graph) (way_by (came_from graph begun) steps n)
way-in graph begun zero n inside = All-cons (λ k. k < length graph) n [] inside (All-nil (λ k. k < length graph))
way-in graph begun (suc steps) n inside =
    All-push (λ k. k < length graph) (option_map_or (way_by (came_from graph begun) steps) (came_from graph begun n) []) n
    (before (came_from graph begun n) (way-in graph begun steps) (came-within graph begun n)) inside
  where
    before : (o : Option ℕ) → ((m : ℕ) → m < length graph → All (λ k. k < length graph) (way_by (came_from graph begun) steps m)) → ((m : ℕ) → o ≡ Some m → m < length graph)
        → All (λ k. k < length graph) (option_map_or (way_by (came_from graph begun) steps) o [])
    before None all within = All-nil (λ k. k < length graph)
    before (Some m) all within = all m (within m refl)

pub way-within : (graph : Graph) (begun : ℕ → Bool) (n : ℕ) → n < length graph → All (λ k. k < length graph) (way_to graph begun n)
way-within graph begun n inside = by (depth_of graph begun n)
  where
    by : (o : Option ℕ) → All (λ k. k < length graph) (option_map_or (λ depth. way_by (came_from graph begun) depth n) o [])
    by None = All-nil (λ k. k < length graph)
    by (Some depth) = way-in graph begun depth n inside

module _ (graph : Graph) (begun : ℕ → Bool) (ways : WayMap) (are : AreWays graph begun ways) where
  way-same : (steps n : ℕ) → n < length graph → way_by (at_cell ways.befores) steps n ≡ way_by (came_from graph begun) steps n
  way-same zero n inside = refl
  way-same (suc steps) n inside =
      ap (λ o. option_map_or (way_by (at_cell ways.befores) steps) o [] ++ n ∷ []) (are.befores n inside)
      ∙ ap (λ l. l ++ n ∷ []) (before (came_from graph begun n) (way-same steps) (λ m is. came-within graph begun n m is))
    where
      before : (o : Option ℕ) → ((m : ℕ) → m < length graph → way_by (at_cell ways.befores) steps m ≡ way_by (came_from graph begun) steps m) → ((m : ℕ) → o ≡ Some m → m < length graph)
          → option_map_or (way_by (at_cell ways.befores) steps) o [] ≡ option_map_or (way_by (came_from graph begun) steps) o []
      before None same within = refl
      before (Some m) same within = same m (within m refl)

  -- the way that was kept
  pub way-kept : (n : ℕ) (found : Option ℕ) → n < length ways.depths → found ≡ at_cell ways.depths n
      → option_map_or (λ depth. way_by (at_cell ways.befores) depth n) found [] ≡ way_to graph begun n
  way-kept n found inside is =
      let within : n < length graph = omega (arith, inside, are.size) in
      ap (λ o. option_map_or (λ depth. way_by (at_cell ways.befores) depth n) o []) (is ∙ are.depths n within)
      ∙ each (depth_of graph begun n) within
    where
      each : (o : Option ℕ) → n < length graph → option_map_or (λ depth. way_by (at_cell ways.befores) depth n) o [] ≡ option_map_or (λ depth. way_by (came_from graph begun) depth n) o []
      each None within = refl
      each (Some depth) within = way-same depth n within
