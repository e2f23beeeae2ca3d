-- What the parts of a heap alone hold, and what all of them reach. Sums of words are exact.
use Rattle.std.specs.Prelude.{ℕ, ◌==◌, true, nat_lt, List, map, filter, length, take, codes, Option, None, Some, option_map, slice_index_or}
use Rattle.std.specs.Option.{option_map_or}
use Rattle.std.specs.List.{position, zip}
use Rattle.cell_parts.specs.Elements.{cell_elements}
use Rattle.cell_parts.specs.Parts.{CellPart, PartElement, parts_made}
use Rattle.cell_records.specs.declared.cells.Kind.{Kind}
use Rattle.heap_graph.specs.Binaries.{binaries_among}
use Rattle.dump_sections.specs.Index.{Contents, sections_in}
use Rattle.heap_cells.specs.Cells.{Cell}
use Rattle.heap_skeleton.specs.Skeletons.{SkeletonMap, skeleton_for}
use Rattle.heap_weights.specs.Holders.{is_held}
use Rattle.heap_weights.specs.Parts.{holder_of, reached_at}
use Rattle.heap_weights.specs.Shares.{weight_below, weight_of, weights_from}
use Rattle.heap_weights.specs.declared.holders.Holder.TheVariants.{Several}
use Rattle.heap_weights.specs.declared.shares.Weight.{Weight}
use Rattle.text_groups.specs.Sorting.{most_first}
use Rattle.cell_parts.specs.Roots.{all_roots, roots_elements}
use Rattle.tuple_fronts.specs.Fronts.{cells_for}
use Rattle.part_keys.specs.Keys.{key_label}

-- a part: the words and the number of the cells that it alone holds, how many of these refer to binaries, the kind and the address of
-- its cell, how many elements lead to it, and where the first of them stands
pub record Row : Type 0 where
  pub words : ℕ
  pub cells : ℕ
  pub binaries : ℕ
  pub kind : Option Kind
  pub address : ℕ
  pub elements : ℕ
  pub at : ℕ
  pub label : List ℕ

-- what parts hold of the own cells of a heap
pub record Weighing : Type 0 where
  -- the parts that alone hold a cell, the most words first, of equal ones the first part
  pub rows : List Row
  -- what the cell reaches whose elements are weighed, if they are those of one
  pub within : Option Weight
  -- what two or more parts reach
  pub shared : Weight
  -- what any part reaches
  pub reached : Weight
  -- all own cells
  pub own : Weight
  -- how many elements are weighed, and how many parts they make
  pub elements : ℕ
  pub parts : ℕ

-- a part that alone holds this
abbrev pub row_of : SkeletonMap → CellPart × Weight → Row
row_of heap (part, weight) = record {
  words = weight.words;
  cells = weight.cells;
  binaries = weight.binaries;
  kind = slice_index_or heap.kinds part.cell None;
  address = slice_index_or heap.addresses part.cell 0;
  elements = part.elements;
  at = part.at;
  label = part.label;
}

-- the parts that hold a cell, where these are what each alone holds
abbrev pub rows_of : SkeletonMap → List CellPart → List Weight → List Row
rows_of heap parts alone = most_first (λ row. row.words) (filter (λ row. nat_lt 0 row.cells) (map (row_of heap) (zip parts alone)))

-- what the parts hold that these elements make
abbrev pub weighing : SkeletonMap → Option Weight → List PartElement → Weighing
weighing heap within elements =
    let parts = parts_made elements in
    let binaries = binaries_among heap.kinds in
    let holders = holder_of heap.leads (map (λ part. part.cell) parts) in record {
      rows = rows_of heap parts (weights_from 0 heap.words binaries holders heap.own (length parts));
      within = within;
      shared = weight_of heap.words binaries holders Several heap.own;
      reached = weight_below heap.words binaries (λ n. is_held (holders n)) heap.own;
      own = weight_below heap.words binaries (λ n. true) heap.own;
      elements = length elements;
      parts = length parts;
    }

-- what the parts hold that the roots of the process with this pid make
abbrev pub root_weighing : List ℕ → Contents → List ℕ → Weighing
root_weighing dump index pid =
    let heap = skeleton_for dump index pid in weighing heap None (roots_elements heap.addresses (all_roots dump (sections_in index) pid))

-- the label of a weighed element of a cell: the key under which it stands, if the cell is a map
abbrev pub element_label : List Cell → ℕ → PartElement → List ℕ
element_label cells cell e = option_map_or (λ n. key_label cells (record { cell = cell; at = e.at; part = n })) e.lead (codes "-")

-- it with this label
abbrev pub with_key : List Cell → ℕ → PartElement → PartElement
with_key cells cell e = record e { label = element_label cells cell e }

-- the weighed elements of a cell with their labels
abbrev pub keyed : List Cell → ℕ → List PartElement → List PartElement
keyed cells cell elements = map (with_key cells cell) elements

-- a weighing with at most this many parts
abbrev pub first_parts : ℕ → Weighing → Weighing
first_parts most w = record w { rows = take most w.rows }

-- what the parts hold that the elements of a cell make, beside what the cell reaches, with at most this many parts
abbrev pub cell_weighing : SkeletonMap → List Cell → ℕ → ℕ → Weighing
cell_weighing heap cells most cell =
    first_parts most
    (weighing heap (Some (weight_below heap.words (binaries_among heap.kinds) (reached_at heap.leads cell) heap.own))
    (keyed cells cell (cell_elements heap.kinds heap.leads cell)))

-- what the parts hold that the elements of the cell at an address make, with at most this many parts, if the heap of the
-- process has that cell
abbrev pub address_weighing : List ℕ → Contents → List ℕ → ℕ → ℕ → Option Weighing
address_weighing dump index pid most address =
    let heap = skeleton_for dump index pid in
    option_map (cell_weighing heap (cells_for dump index pid) most) (position (λ a. a == address) heap.addresses)
