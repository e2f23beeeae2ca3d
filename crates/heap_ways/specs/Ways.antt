-- The way from the roots of a process to a cell of its heap, as it is shown. Offsets are of the file.
use Rattle.std.specs.Prelude.{ℕ, ◌==◌, Bool, List, [], ◌∷◌, map, slice_index_or, Option, None, Some, if◌then◌else◌}
use Rattle.std.specs.List.{position}
use Rattle.std.specs.Option.{option_map, option_map_or}
use Rattle.cell_graphs.specs.Frontiers.{is_on}
use Rattle.heap_skeleton.specs.Kinds.{cell_kind}
use Rattle.cell_parts.specs.Parts.{CellPart, parts_made}
use Rattle.cell_records.specs.declared.cells.Kind.{Kind}
use Rattle.cell_ways.specs.Depths.{depth_of, way_to}
use Rattle.dump_sections.specs.Index.{Contents, sections_in}
use Rattle.heap_cells.specs.Cells.{Cell}
use Rattle.heap_skeleton.specs.Skeletons.{SkeletonMap, is_tuple, skeleton_for}
use Rattle.cell_parts.specs.Roots.{all_roots, roots_elements}
use Rattle.tuple_fronts.specs.Fronts.{cells_for}
use Rattle.tuple_fronts.specs.Shapes.{inner_shape}
use Rattle.heap_ways.specs.Steps.{steps_of}
use Rattle.heap_ways.specs.declared.steps.Step.{Step}
use Rattle.heap_ways.specs.declared.steps.Step.TheVariants as step

-- a step of a way as it is shown
pub data Line : Type 0 where
  -- so many lists that follow on each other, of which the first has this address
  Tails : (address count : ℕ) → Line
  -- a cell: its address and kind; the place of it that leads to the next, if there is one; and the shape of a tuple
  Single : (address : ℕ) (kind : Option Kind) (place : Option ℕ) (front : Option (List ℕ)) → Line

-- where a root stands, and its label
pub record WayRoot : Type 0 where
  pub at : ℕ
  pub label : List ℕ

-- a way: the first root that refers to its first cell, its steps, and the depth of its last cell. Of a cell
-- that isn't reached there is no depth, no step and, as root, one at 0 without a label
pub record Way : Type 0 where
  pub root : WayRoot
  pub lines : List Line
  pub depth : Option ℕ

-- the address of a cell
abbrev pub address_of : SkeletonMap → ℕ → ℕ
address_of heap n = slice_index_or heap.addresses n 0

-- the shape of a cell inside a message, if it is a tuple
abbrev pub front_of : SkeletonMap → List Cell → ℕ → Option (List ℕ)
front_of heap cells n = if is_tuple heap n then Some (inner_shape cells n) else None

-- a step as it is shown
abbrev pub line_of : SkeletonMap → List Cell → Step → Line
line_of heap cells (step.Tails n count) = Tails (address_of heap n) count
line_of heap cells (step.Cell n place) = Single (address_of heap n) (cell_kind heap.kinds n) place (front_of heap cells n)

-- no root
abbrev pub no_root : WayRoot
no_root = record { at = 0; label = [] }

-- the first root that refers to the cell of a part
abbrev pub part_root : CellPart → WayRoot
part_root part = record { at = part.at; label = part.label }

-- the first root that refers to a cell, of roots that make these parts
abbrev pub first_root : List CellPart → ℕ → WayRoot
first_root parts n = option_map_or (λ i. slice_index_or (map part_root parts) i no_root) (position (λ m. m == n) (map (λ part. part.cell) parts)) no_root

-- the first root that refers to the first cell of a way
abbrev pub root_of : List CellPart → List ℕ → WayRoot
root_of parts [] = no_root
root_of parts (n ∷ way) = first_root parts n

-- a way with these cells to one of this depth
abbrev pub way_with : SkeletonMap → List Cell → List CellPart → List ℕ → Option ℕ → Way
way_with heap cells parts way depth =
    record { root = root_of parts way; lines = map (line_of heap cells) (steps_of heap.kinds heap.leads way); depth = depth }

-- whether a cell is that of a part
abbrev pub is_part : List CellPart → ℕ → Bool
is_part parts n = is_on n (map (λ part. part.cell) parts)

-- the way to a cell from roots that make these parts
abbrev pub way_found : SkeletonMap → List Cell → List CellPart → ℕ → Way
way_found heap cells parts n =
    way_with heap cells parts (way_to heap.leads (is_part parts) n) (depth_of heap.leads (is_part parts) n)

-- the way from the roots of the process with this pid to a cell of its heap
abbrev pub root_way : List ℕ → Contents → List ℕ → SkeletonMap → ℕ → Way
root_way dump index pid heap n =
    way_found heap (cells_for dump index pid) (parts_made (roots_elements heap.addresses (all_roots dump (sections_in index) pid))) n

-- the way from these roots to the cell at an address, if its heap or the literals have that cell
abbrev pub heap_way : List ℕ → Contents → List ℕ → ℕ → Option Way
heap_way dump index pid address =
    let heap = skeleton_for dump index pid in
    option_map (root_way dump index pid heap) (position (λ a. a == address) heap.addresses)
