-- Going down from level to level, with parts whose labels are not yet keys.
use Rattle.std.specs.Prelude.{◌≡◌, ℕ, List, ◌++◌, All, length, map}
use Rattle.std.specs.List.{zip}
use Rattle.cell_parts.specs.Parts.{ArePartsOf, CellParts, PartElement}
use Rattle.heap_skeleton.specs.Skeletons.{SkeletonMap}
use Rattle.part_weights.specs.Weights.{Row}
use Rattle.cell_parts.specs.Over.{IsOver}
use Rattle.heap_levels.specs.Inner.Plain.{Keyed, PartsMap, descent, keyed_with, last_parts, parts_with}
use Rattle.part_keys.specs.KeyPlaces.{AreKeysWithin}
use Rattle.part_keys.specs.PartShapes.{AreShapedWithin}
use Rattle.heap_levels.specs.declared.level_parts.LevelParts.{LevelParts}
use Rattle.heap_levels.specs.declared.descending.Descent.{Descent}
use Rattle.heap_levels.specs.declared.levels.KeyedLevel.{KeyedLevel}
use Rattle.heap_levels.specs.declared.levels.WeighedLevel.{WeighedLevel}
use Rattle.heap_levels.specs.declared.level_rows.LevelRow.{LevelRow}
use Rattle.heap_levels.specs.declared.levels.Subject.{Subject}

-- ---- rows as they are kept

-- a row with its label
abbrev pub shown_row : LevelRow × List ℕ → Row
shown_row (r, label) =
    record { words = r.words; cells = r.cells; binaries = r.binaries; kind = r.kind; address = r.address; elements = r.elements; at = r.at; label = label }

-- rows with their labels
abbrev pub shown_rows : List LevelRow → List (List ℕ) → List Row
shown_rows rows labels = map shown_row (zip rows labels)

-- ---- levels

-- a level and where its keys stand, as they are kept
abbrev pub shown_keyed : KeyedLevel → Keyed
shown_keyed k = record { level = k.level; keys = k.keys.items }

-- the parts of a level, as they are kept
abbrev pub shown_parts : LevelParts → PartsMap
shown_parts parts = record { shaped = parts.shaped.items; words = parts.words.items }

-- a level and its parts are those of a subject with these elements
pub record IsWeighed (most : ℕ) (heap : SkeletonMap) (weighed : Subject × List PartElement) (found : WeighedLevel) : Type 0 where
  pub level : shown_keyed found.keyed ≡ keyed_with most heap weighed
  pub parts : shown_parts found.parts ≡ parts_with heap weighed

-- the levels are those of what is weighed, and the parts those of the last one
pub record IsDescent (most : ℕ) (heap : SkeletonMap) (weighed : List (Subject × List PartElement)) (found : Descent) : Type 0 where
  pub levels : map shown_keyed found.levels.items ≡ map (keyed_with most heap) weighed
  pub last : shown_parts found.last ≡ last_parts heap weighed

-- the shapes of parts stand in so many cells, and each part has words
pub record ArePartsWithin (size : ℕ) (parts : LevelParts) : Type 0 where
  pub shaped : AreShapedWithin size parts.shaped.items
  pub count : length parts.shaped.items ≡ length parts.words.items

-- the keys of levels and the shapes of the parts of the last one stand in so many cells
pub record IsDescentWithin (size : ℕ) (found : Descent) : Type 0 where
  pub keys : All (λ k. AreKeysWithin size k.keys.items) found.levels.items
  pub last : ArePartsWithin size found.last

-- what was found is that of the first subjects, and with these elements of the next one the others follow
pub record ComesTo (n most : ℕ) (heap : SkeletonMap) (total : ℕ) (found : Descent) (subject : Subject) (parts : CellParts) (whole : List (Subject × List PartElement)) : Type 0 where
  pub done : List (Subject × List PartElement)
  pub elements : List PartElement
  pub found_is : IsDescent most heap done found
  pub made : ArePartsOf elements parts
  pub are : done ++ descent n heap total subject elements ≡ whole

-- so many levels may follow those found; with what comes then they are all that come from the parts at the beginning
pub record IsDescending (n most : ℕ) (heap : SkeletonMap) (total : ℕ) (begun : Subject) (first : CellParts) (found : Descent) (subject : Subject) (parts : CellParts) : Type 0 where
  pub over : IsOver heap parts
  pub within : IsDescentWithin (length heap.leads) found
  pub later : (elements : List PartElement) → ArePartsOf elements first → ComesTo n most heap total found subject parts (descent 19 heap total begun elements)
