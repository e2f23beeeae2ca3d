-- The parts of each kind of roots, as they are kept.
use Rattle.std.specs.Prelude.{ℕ, List, map}
use Rattle.cell_parts.specs.Parts.{ArePartsOf, PartElement}
use Rattle.dump_sections.specs.Sections.{Section}
use Rattle.heap_skeleton.specs.Skeletons.{SkeletonMap}
use Rattle.cell_parts.specs.Over.{IsOver}
use Rattle.cell_parts.specs.Roots.{roots_at, roots_elements}
use Rattle.root_views.specs.Sections.{root_section}
use Rattle.root_views.specs.declared.kinds.RootKind.{RootKind}
use Rattle.root_views.specs.declared.kinds.RootKind.TheVariants.{Stack, Dict, Mail}
use Rattle.part_keys.specs.declared.key_places.KeyPlace.{KeyPlace}
use Rattle.heap_levels.specs.Inner.Plain.{LevelMap}
use Rattle.heap_levels.specs.Inner.Descent.{shown_keyed, shown_parts}
use Rattle.heap_levels.specs.Shown.{shown_level}
use Rattle.heap_levels.specs.declared.found_levels.FoundLevels.{FoundLevels}
use Rattle.heap_levels.specs.declared.found_levels.KindParts.{KindParts}
use Rattle.heap_levels.specs.declared.levels.KeyedLevel.{KeyedLevel}

-- the parts are those of a heap with this skeleton
pub record AreOver (heap : SkeletonMap) (kinds : KindParts) : Type 0 where
  pub stack : IsOver heap kinds.stack
  pub dict : IsOver heap kinds.dict
  pub mail : IsOver heap kinds.mail

-- the parts are those that the elements of each kind make
pub record AreKinds (roots : RootKind → List PartElement) (kinds : KindParts) : Type 0 where
  pub stack : ArePartsOf (roots Stack) kinds.stack
  pub dict : ArePartsOf (roots Dict) kinds.dict
  pub mail : ArePartsOf (roots Mail) kinds.mail

-- the elements among the roots of each kind of a process, in a heap with these addresses
abbrev pub roots_in : List ℕ → List ℕ → List Section → List ℕ → RootKind → List PartElement
roots_in addresses dump sections pid kind = roots_elements addresses (roots_at dump kind (root_section kind pid sections))

-- ---- what is found before the keys are read

-- where the keys of a level stand, as they are kept
abbrev pub level_keys : KeyedLevel → List KeyPlace
level_keys k = k.keys.items

-- the levels, as they are kept
abbrev pub shown_found : FoundLevels → LevelMap
shown_found found = record { zero = shown_level found.zero; below = map shown_keyed found.below.levels.items; last = shown_parts found.below.last }
