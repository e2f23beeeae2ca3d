-- A way as it is kept.
use Rattle.std.specs.Prelude.{◌≡◌, ℕ, ◌<◌, true, Contains, List, [], length, map, slice_index_or, IfSome, Option, None, if◌then◌else◌}
use Rattle.std.specs.List.{AllByRecursion}
use Rattle.std.specs.Option.{option_map}
use Rattle.heap_skeleton.specs.Kinds.{cell_kind}
use Rattle.heap_skeleton.specs.Skeletons.{SkeletonMap, is_tuple}
use Rattle.tuple_fronts.specs.CellSets.{place_of}
use Rattle.heap_ways.specs.Ways.{Line, Tails, Single, Way, WayRoot, address_of}
use Rattle.heap_ways.specs.declared.roots.Root.{Root}
use Rattle.heap_ways.specs.declared.steps.Step.{Step}
use Rattle.heap_ways.specs.declared.steps.Step.TheVariants as step
use Rattle.heap_ways.specs.declared.placing.Placed.{Placed}

-- the cell of a step, or the first of its cells
abbrev pub step_cell : Step → ℕ
step_cell (step.Tails n count) = n
step_cell (step.Cell n place) = n

-- the number of the shape of a step's cell among those of these tuples, if it is one
abbrev pub front_place : SkeletonMap → List ℕ → Step → Option ℕ
front_place heap tuples (step.Tails n count) = None
front_place heap tuples (step.Cell n place) = if is_tuple heap n then place_of tuples n else None

-- a step with the number of its shape
abbrev pub placed : SkeletonMap → List ℕ → Step → Placed
placed heap tuples st = record { step = st; front = front_place heap tuples st }

-- each step is at a cell of the heap, and its shape is one of so many
pub record IsIn (heap : SkeletonMap) (count : ℕ) (p : Placed) : Type 0 where
  pub cell : step_cell p.step < length heap.leads
  pub front : IfSome p.front (λ i. i < count)

abbrev pub AreIn : SkeletonMap → ℕ → List Placed → Type 0
AreIn heap count steps = AllByRecursion (IsIn heap count) steps

-- a step as it is shown, given the shapes
abbrev pub line_with : SkeletonMap → List (List ℕ) → Step → Option ℕ → Line
line_with heap fronts (step.Tails n count) front = Tails (address_of heap n) count
line_with heap fronts (step.Cell n place) front = Single (address_of heap n) (cell_kind heap.kinds n) place (option_map (λ i. slice_index_or fronts i []) front)

abbrev pub line_kept : SkeletonMap → List (List ℕ) → Placed → Line
line_kept heap fronts p = line_with heap fronts p.step p.front

-- the root that is kept
abbrev pub root_kept : Root → WayRoot
root_kept root = record { at = root.at; label = root.label.items }

-- the way that is kept
abbrev pub way_kept : SkeletonMap → Root → List Placed → List (List ℕ) → Option ℕ → Way
way_kept heap root steps fronts depth = record { root = root_kept root; lines = map (line_kept heap fronts) steps; depth = depth }

-- the tuples among these cells are in a set
abbrev pub HasTuples : SkeletonMap → List ℕ → List ℕ → Type 0
HasTuples heap cells set = (n : ℕ) → Contains cells n → is_tuple heap n ≡ true → Contains set n
