-- The search of depths, one depth after the other.
use Rattle.std.specs.Prelude.{◌≡◌, ℕ, suc, ◌<◌, ◌==◌, Bool, false, ◌&&◌, ◌||◌, List, ◌++◌, length, drop, is_none, All, Option, None, Some, if◌then◌else◌}
use Rattle.std.specs.List.{list_any}
use Rattle.std.specs.Option.{option_map_or, option_or}
use Rattle.cell_graphs.specs.Frontiers.{is_on}
use Rattle.cell_graphs.specs.Graphs.{Graph}
use Rattle.cell_graphs.specs.Rounds.{after_rounds, leads_to}
use Rattle.cell_ways.specs.Depths.{depth_of, is_next, least_below}
use Rattle.cell_ways.specs.Ways.{at_cell}
use Rattle.cell_ways.specs.declared.search.Search.{Search}

-- a number that is given where this is so, unless there is one
abbrev pub or_given : ℕ → Bool → Option ℕ → Option ℕ
or_given number is before = option_or before (if is then Some number else None)

-- the cells of a set that had no number have this one
pub record Gives (old new : List ℕ) (number : ℕ) (set : ℕ → Bool) : Type 0 where
  pub size : length new ≡ length old
  pub each : (n : ℕ) → n < length old → at_cell new n ≡ or_given number (set n) (at_cell old n)

-- the cells of a set that had no depth have this one, and were put into the queue
pub record Finds (old new : Search) (depth : ℕ) (set : ℕ → Bool) : Type 0 where
  pub gives : Gives old.depths.items new.depths.items depth set
  pub found : List ℕ
  pub queue : new.queue.items ≡ old.queue.items ++ found
  pub within : All (λ n. n < length old.depths.items) found
  pub which : (n : ℕ) → n < length old.depths.items → is_on n found ≡ (set n && is_none (at_cell old.depths.items n))

-- the cells of a set were put behind others, and all are below a bound if the others are
pub record Gathers (size : ℕ) (old new : List ℕ) (set : ℕ → Bool) : Type 0 where
  pub within : All (λ n. n < size) old → All (λ n. n < size) new
  pub which : (n : ℕ) → is_on n new ≡ (is_on n old || set n)

-- whether one of these cells leads to another
abbrev pub is_led_by : Graph → List ℕ → ℕ → Bool
is_led_by graph cells n = list_any (λ m. leads_to graph m n) cells

-- whether this is the depth
abbrev pub is_depth : ℕ → Option ℕ → Bool
is_depth depth found = option_map_or (λ d. d == depth) found false

-- the cells of at most this depth are found, and in the queue those of this depth are those from a place on
pub record IsSearched (graph : Graph) (begun : ℕ → Bool) (search : Search) (from depth : ℕ) : Type 0 where
  pub size : length search.depths.items ≡ length graph
  pub depths : (n : ℕ) → n < length graph
      → at_cell search.depths.items n ≡ least_below (λ rounds. after_rounds rounds graph begun n) (suc depth)
  pub queue : All (λ n. n < length graph) search.queue.items
  pub last : (n : ℕ) → n < length graph → is_on n (drop from search.queue.items) ≡ is_depth depth (at_cell search.depths.items n)

-- these are the depths of a graph's cells
pub record AreDepths (graph : Graph) (begun : ℕ → Bool) (depths : List ℕ) : Type 0 where
  pub size : length depths ≡ length graph
  pub each : (n : ℕ) → n < length graph → at_cell depths n ≡ depth_of graph begun n

-- whether the way to a cell comes from another, if that leads to it
abbrev pub is_before : List ℕ → ℕ → ℕ → Bool
is_before depths m n = is_next (at_cell depths m) (at_cell depths n)

-- of the first cells that are of one depth less and lead to a cell, the first, for each cell
pub record AreNoted (graph : Graph) (depths : List ℕ) (count : ℕ) (befores : List ℕ) : Type 0 where
  pub size : length befores ≡ length graph
  pub each : (n : ℕ) → n < length graph
      → at_cell befores n ≡ least_below (λ m. is_before depths m n && leads_to graph m n) count
