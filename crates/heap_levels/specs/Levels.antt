-- Down to where the memory of a process hangs, level after level. On each level parts are weighed: on level 0 the three kinds of
-- roots, on level 1 the cells to which the roots of one kind refer, and on each further level those to which the elements of one
-- cell refer. A level is followed by what its heaviest part leads to, as long as that alone holds more than half of what all roots
-- reach.
use Rattle.std.specs.Prelude.{ℕ, zero, suc, ◌+◌, ◌*◌, ◌==◌, nat_lt, if◌then◌else◌, List, [], ◌∷◌, ◌++◌, length, map, filter, position, take, Option, None, Some}
use Rattle.std.specs.List.{sum_by, zip}
use Rattle.std.specs.Option.{option_and_then, option_map_or}
use Rattle.cell_graphs.specs.Graphs.{Graph}
use Rattle.cell_parts.specs.Elements.{cell_elements}
use Rattle.cell_parts.specs.Parts.{CellPart, PartElement, parts_made}
use Rattle.heap_graph.specs.Binaries.{binaries_among}
use Rattle.dump_sections.specs.Index.{Contents, sections_in}
use Rattle.heap_cells.specs.Cells.{Cell}
use Rattle.heap_cells.specs.HeapMap.{form_at}
use Rattle.heap_skeleton.specs.Skeletons.{SkeletonMap, skeleton_for}
use Rattle.heap_weights.specs.Holders.{is_held}
use Rattle.heap_weights.specs.Parts.{holder_of}
use Rattle.heap_weights.specs.Shares.{weight_below, weight_of, weights_from}
use Rattle.heap_weights.specs.declared.holders.Holder.TheVariants.{Several}
use Rattle.heap_weights.specs.declared.shares.Weight.{Weight}
use Rattle.part_weights.specs.Weights.{Row, Weighing, keyed, weighing}
use Rattle.cell_parts.specs.Roots.{roots_at, roots_elements}
use Rattle.root_views.specs.Sections.{root_section}
use Rattle.root_views.specs.declared.kinds.RootKind.{RootKind}
use Rattle.root_views.specs.declared.kinds.RootKind.TheVariants.{Stack, Dict, Mail}
use Rattle.part_keys.specs.PartShapes.{pair_shape}
use Rattle.term_forms.specs.Forms.{HeapForm}
use Rattle.text_groups.specs.Groups.{Item, groups, item_at, members}
use Rattle.text_groups.specs.Sorting.{most_first}
use Rattle.text_groups.specs.declared.text_group.TextGroup.{TextGroup}
use Rattle.tuple_fronts.specs.Fronts.{cells_for}
use Rattle.heap_levels.specs.declared.kinds.KindRow.{KindRow}
use Rattle.heap_levels.specs.declared.levels.Subject.{Subject}
use Rattle.heap_levels.specs.declared.levels.Subject.TheVariants as of

-- the heap of a process twice, by what leads where in it and with its forms, and where its roots are
pub record Process : Type 0 where
  pub heap : SkeletonMap
  pub cells : List Cell
  -- the elements among the roots of a kind
  pub roots : RootKind → List PartElement

-- the process with this pid
abbrev pub process_of : List ℕ → Contents → List ℕ → Process
process_of dump index pid =
    let heap = skeleton_for dump index pid in record {
      heap = heap;
      cells = cells_for dump index pid;
      roots = λ kind. roots_elements heap.addresses (roots_at dump kind (root_section kind pid (sections_in index)));
    }

-- ---- level 0

-- the kinds of roots
abbrev pub kinds : List RootKind
kinds = Stack ∷ Dict ∷ Mail ∷ []

-- the places of a cell that leads to the cells of these parts
abbrev pub part_leads : List CellPart → List (Option ℕ)
part_leads parts = map (λ part. Some part.cell) parts

-- cells, and behind them one for each kind of roots, which leads to the cells of the parts that these make
abbrev pub with_kinds : Graph → List CellPart → List CellPart → List CellPart → Graph
with_kinds graph stack dict mail = graph ++ part_leads stack ∷ part_leads dict ∷ part_leads mail ∷ []

-- the numbers of those behind
abbrev pub kind_cells : Graph → List ℕ
kind_cells graph = length graph ∷ (length graph + 1) ∷ (length graph + 2) ∷ []

-- the kinds that alone hold a cell, the most words first; what two or more reach, and what any reaches
pub record KindWeighing : Type 0 where
  pub rows : List KindRow
  pub shared : Weight
  pub reached : Weight

-- the row of a kind with its weight
abbrev pub kind_row : RootKind × Weight → KindRow
kind_row (kind, weight) = record { kind = kind; weight = weight }

-- what the kinds hold whose roots make these parts
abbrev pub kind_weighing : SkeletonMap → List CellPart → List CellPart → List CellPart → KindWeighing
kind_weighing heap stack dict mail =
    let binaries = binaries_among heap.kinds in
    let holders = holder_of (with_kinds heap.leads stack dict mail) (kind_cells heap.leads) in record {
      rows = most_first (λ row. row.weight.words) (filter (λ row. nat_lt 0 row.weight.cells) (map kind_row (zip kinds (weights_from 0 heap.words binaries holders heap.own 3))));
      shared = weight_of heap.words binaries holders Several heap.own;
      reached = weight_below heap.words binaries (λ n. is_held (holders n)) heap.own;
    }

-- level 0 of a process
abbrev pub level_zero : Process → KindWeighing
level_zero p = kind_weighing p.heap (parts_made (p.roots Stack)) (parts_made (p.roots Dict)) (parts_made (p.roots Mail))

-- ---- the levels below

-- the elements that are weighed: those of the roots of a kind, or those of the cell at an address
abbrev pub subject_elements : Process → Subject → List PartElement
subject_elements p (of.OfKind kind) = p.roots kind
subject_elements p (of.OfCell address) =
    option_map_or (λ n. keyed p.cells n (cell_elements p.heap.kinds p.heap.leads n)) (position (λ a. a == address) p.heap.addresses) []

-- a level: what is weighed, the parts that alone hold a cell, what two or more parts reach, what any reaches, and how many parts
-- there are
pub record Level : Type 0 where
  pub subject : Subject
  pub rows : List Row
  pub shared : Weight
  pub reached : Weight
  pub parts : ℕ

-- the level of a weighing
abbrev pub as_level : Subject → Weighing → Level
as_level subject w = record { subject = subject; rows = w.rows; shared = w.shared; reached = w.reached; parts = w.parts }

-- the level of what is weighed in a process
abbrev pub level_of : Process → Subject → Level
level_of p subject = as_level subject (weighing p.heap None (subject_elements p subject))

-- a level with at most this many rows
abbrev pub first_rows : ℕ → Level → Level
first_rows most level = record level { rows = take most level.rows }

-- the address of the part that alone holds the most words, if these are more than half of a total
abbrev pub heaviest : ℕ → List Row → Option ℕ
heaviest total [] = None
heaviest total (row ∷ rows) = if nat_lt total (2 * row.words) then Some row.address else None

-- at most so many levels, from that of a subject on; a level without a part is none
abbrev pub levels_from : ℕ → Process → ℕ → Subject → List Level
levels_from zero p total subject = []
levels_from (suc n) p total subject =
    let level = level_of p subject in
    if nat_lt 0 level.parts then level ∷ option_map_or (λ address. levels_from n p total (of.OfCell address)) (heaviest total level.rows) [] else []

-- the kind that alone holds the most words, if these are more than half of a total
abbrev pub heaviest_kind : ℕ → List KindRow → Option RootKind
heaviest_kind total [] = None
heaviest_kind total (row ∷ rows) = if nat_lt total (2 * row.weight.words) then Some row.kind else None

-- all levels below level 0: the last of all has the number 19
abbrev pub levels_below : Process → KindWeighing → List Level
levels_below p top = option_map_or (λ kind. levels_from 19 p top.reached.words (of.OfKind kind)) (heaviest_kind top.reached.words top.rows) []

-- ---- what the parts of a level are

-- the form of the cell whose elements are weighed, if they are those of one
abbrev pub subject_form : Process → Subject → Option HeapForm
subject_form p (of.OfKind kind) = None
subject_form p (of.OfCell address) = option_and_then (form_at p.cells) (position (λ a. a == address) p.heap.addresses)

-- a part with what it alone holds as one of those that are grouped
abbrev pub shape_item : Process → Subject → CellPart × Weight → Item
shape_item p subject (part, weight) = record { text = pair_shape p.cells (subject_form p subject) (form_at p.cells part.cell) part.cell; weight = weight.words }

-- the parts of a level, as they are grouped
abbrev pub shape_items : Process → Subject → List Item
shape_items p subject =
    let parts = parts_made (subject_elements p subject) in
    let holders = holder_of p.heap.leads (map (λ part. part.cell) parts) in
    map (shape_item p subject) (zip parts (weights_from 0 p.heap.words (binaries_among p.heap.kinds) holders p.heap.own (length parts)))

-- a shape: how many parts have it, and the sum of the words that each of them alone holds
pub record Shape : Type 0 where
  pub parts : ℕ
  pub words : ℕ
  pub text : List ℕ

-- the shape that the items of a group have
abbrev pub group_shape : List Item → TextGroup → Shape
group_shape items group =
    let text = (item_at items group.first).text in record {
      parts = group.count;
      words = sum_by (λ item. item.weight) (members text items);
      text = text;
    }

-- the shapes that items have, the most words first, of equal ones the shape whose first item is the first
abbrev pub shapes_of : List Item → List Shape
shapes_of items = most_first (λ shape. shape.words) (map (group_shape items) (groups items))

-- those of the parts of the last of these levels; level 0 has none
abbrev pub last_shapes : Process → List Level → List Shape
last_shapes p [] = []
last_shapes p (level ∷ []) = shapes_of (shape_items p level.subject)
last_shapes p (level ∷ below ∷ levels) = last_shapes p (below ∷ levels)

-- ---- all levels

-- level 0, those below it, and the shapes of the parts of the last one
pub record HeavyLevels : Type 0 where
  pub zero : KindWeighing
  pub below : List Level
  pub shapes : List Shape

-- level 0 with at most this many kinds
abbrev pub first_kinds : ℕ → KindWeighing → KindWeighing
first_kinds most top = record top { rows = take most top.rows }

-- the levels of a process, each with at most this many rows, and at most this many shapes
abbrev pub heavy_levels : ℕ → Process → HeavyLevels
heavy_levels most p =
    let top = level_zero p in
    let below = levels_below p top in record {
      zero = first_kinds most top;
      below = map (first_rows most) below;
      shapes = take most (last_shapes p below);
    }
