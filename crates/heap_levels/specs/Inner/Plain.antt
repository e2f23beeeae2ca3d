-- The levels of a process before texts are read: the parts of a cell have no labels, and those of the last level no shapes.
use Rattle.std.specs.Prelude.{ℕ, zero, suc, ◌+◌, ◌==◌, nat_lt, if◌then◌else◌, List, [], ◌∷◌, length, map, take, slice_index_or, Option, None}
use Rattle.std.specs.List.{flat_map, position, zip}
use Rattle.std.specs.Option.{option_map_or}
use Rattle.cell_parts.specs.Elements.{cell_elements}
use Rattle.cell_parts.specs.Parts.{CellPart, PartElement, parts_made}
use Rattle.heap_skeleton.specs.Skeletons.{SkeletonMap}
use Rattle.part_weights.specs.Weights.{Row, weighing}
use Rattle.root_views.specs.declared.kinds.RootKind.{RootKind}
use Rattle.root_views.specs.declared.kinds.RootKind.TheVariants.{Stack, Dict, Mail}
use Rattle.heap_graph.specs.Binaries.{binaries_among}
use Rattle.heap_weights.specs.Parts.{holder_of}
use Rattle.heap_weights.specs.Shares.{weights_from}
use Rattle.heap_weights.specs.declared.shares.Weight.{Weight}
use Rattle.part_weights.specs.Held.{held_place, sorted_parts}
use Rattle.part_weights.specs.declared.held_parts.HeldPart.{HeldPart}
use Rattle.part_keys.specs.KeyPlaces.{key_place}
use Rattle.part_keys.specs.PartShapes.{shaped_part}
use Rattle.part_keys.specs.declared.key_places.KeyPlace.{KeyPlace}
use Rattle.part_keys.specs.declared.shaped.ShapedPart.{ShapedPart}
use Rattle.text_groups.specs.Groups.{Item}
use Rattle.heap_levels.specs.Levels.{HeavyLevels, KindWeighing, Level, Shape, as_level, first_kinds, first_rows, heaviest, heaviest_kind, kind_weighing, shapes_of}
use Rattle.heap_levels.specs.declared.levels.Subject.{Subject}
use Rattle.heap_levels.specs.declared.levels.Subject.TheVariants as of

-- the elements of the cell at an address
abbrev pub elements_below : SkeletonMap → ℕ → List PartElement
elements_below heap address = option_map_or (cell_elements heap.kinds heap.leads) (position (λ a. a == address) heap.addresses) []

-- the level of these elements
abbrev pub level_with : SkeletonMap → Subject → List PartElement → Level
level_with heap subject elements = as_level subject (weighing heap None elements)

-- what each part alone holds
abbrev pub alone_of : SkeletonMap → List CellPart → List Weight
alone_of heap parts = weights_from 0 heap.words (binaries_among heap.kinds) (holder_of heap.leads (map (λ part. part.cell) parts)) heap.own (length parts)

-- where the keys stand under which parts that alone hold a cell do; those of roots stand under none
abbrev pub keys_of : SkeletonMap → Subject → List CellPart → List HeldPart → List KeyPlace
keys_of heap (of.OfKind kind) parts held = []
keys_of heap (of.OfCell address) parts held =
    option_map_or (λ n. map (λ h. key_place heap (held_place n parts h)) held) (position (λ a. a == address) heap.addresses) []

-- a level and where the keys of its rows stand, if they are parts of a cell
pub record Keyed : Type 0 where
  pub level : Level
  pub keys : List KeyPlace

-- those of a subject with these elements, with at most so many rows
abbrev pub keyed_with : ℕ → SkeletonMap → Subject × List PartElement → Keyed
keyed_with most heap (subject, elements) =
    let parts = parts_made elements in record {
      level = first_rows most (level_with heap subject elements);
      keys = keys_of heap subject parts (take most (sorted_parts (alone_of heap parts)));
    }

-- what is weighed on at most so many levels, from this on
abbrev pub descent : ℕ → SkeletonMap → ℕ → Subject → List PartElement → List (Subject × List PartElement)
descent zero heap total subject elements = []
descent (suc n) heap total subject elements =
    let level = level_with heap subject elements in
    if nat_lt 0 level.parts
    then (subject, elements) ∷ option_map_or (λ address. descent n heap total (of.OfCell address) (elements_below heap address)) (heaviest total level.rows) [] else []

-- what is weighed below level 0 of the kinds whose roots have these elements
abbrev pub below_kinds : SkeletonMap → (RootKind → List PartElement) → KindWeighing → List (Subject × List PartElement)
below_kinds heap roots top =
    option_map_or (λ kind. descent 19 heap top.reached.words (of.OfKind kind) (roots kind)) (heaviest_kind top.reached.words top.rows) []

-- ---- the parts of the last level

-- the parts of a level: where their shapes stand, and the words that each alone holds
pub record PartsMap : Type 0 where
  pub shaped : List ShapedPart
  pub words : List ℕ

-- no parts
abbrev pub no_parts : PartsMap
no_parts = record { shaped = []; words = [] }

-- the cell whose elements are weighed, if they are those of one
abbrev pub subject_cell : SkeletonMap → Subject → Option ℕ
subject_cell heap (of.OfKind kind) = None
subject_cell heap (of.OfCell address) = position (λ a. a == address) heap.addresses

-- those that these elements of a subject make
abbrev pub parts_with : SkeletonMap → Subject × List PartElement → PartsMap
parts_with heap (subject, elements) =
    let parts = parts_made elements in record {
      shaped = map (λ part. shaped_part heap (subject_cell heap subject) part.cell) parts;
      words = map (λ weight. weight.words) (alone_of heap parts);
    }

-- those of the last of several levels
abbrev pub last_parts : SkeletonMap → List (Subject × List PartElement) → PartsMap
last_parts heap [] = no_parts
last_parts heap (weighed ∷ []) = parts_with heap weighed
last_parts heap (weighed ∷ below ∷ levels) = last_parts heap (below ∷ levels)

-- ---- all levels

-- level 0, those below it, and the parts of the last one
pub record LevelMap : Type 0 where
  pub zero : KindWeighing
  pub below : List Keyed
  pub last : PartsMap

-- all levels of a heap, the roots of whose kinds have these elements
abbrev pub levels_with : ℕ → SkeletonMap → (RootKind → List PartElement) → LevelMap
levels_with most heap roots =
    let top = kind_weighing heap (parts_made (roots Stack)) (parts_made (roots Dict)) (parts_made (roots Mail)) in
    let weighed = below_kinds heap roots top in record {
      zero = top;
      below = map (keyed_with most heap) weighed;
      last = last_parts heap weighed;
    }

-- ---- with texts

-- rows with the texts from a place on as their labels
abbrev pub rows_labelled : List (List ℕ) → ℕ → List Row → List Row
rows_labelled labels from [] = []
rows_labelled labels from (row ∷ rows) = record row { label = slice_index_or labels from [] } ∷ rows_labelled labels (from + 1) rows

-- the rows of a subject with these labels; those of roots keep their own
abbrev pub label_rows : List (List ℕ) → ℕ → Subject → List Row → List Row
label_rows labels from (of.OfKind kind) rows = rows
label_rows labels from (of.OfCell address) rows = rows_labelled labels from rows

-- a level with its rows so labelled
abbrev pub level_labelled : List (List ℕ) → ℕ → Level → Level
level_labelled labels from level = record level { rows = label_rows labels from level.subject level.rows }

-- levels with the labels from a place on, level after level
abbrev pub levels_labelled : List (List ℕ) → ℕ → List Keyed → List Level
levels_labelled labels from [] = []
levels_labelled labels from (k ∷ levels) = level_labelled labels from k.level ∷ levels_labelled labels (from + length k.keys) levels

-- where the keys of several levels stand
abbrev pub all_keys : List Keyed → List KeyPlace
all_keys levels = flat_map (λ k. k.keys) levels

-- a part whose shape has this text, and the words that it alone holds
abbrev pub text_item : List ℕ × ℕ → Item
text_item (text, words) = record { text = text; weight = words }

-- the shapes that parts have, given the text of each
abbrev pub text_shapes : List (List ℕ) → List ℕ → List Shape
text_shapes texts words = shapes_of (map text_item (zip texts words))

-- all levels with these labels and shapes
abbrev pub levels_finished : ℕ → LevelMap → List (List ℕ) → List (List ℕ) → HeavyLevels
levels_finished most found labels shapes = record {
  zero = first_kinds most found.zero;
  below = levels_labelled labels 0 found.below;
  shapes = take most (text_shapes shapes found.last.words);
}
