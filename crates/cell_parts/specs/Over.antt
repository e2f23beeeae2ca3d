-- Parts over the cells of a heap.
use Rattle.std.specs.Prelude.{◌≡◌, length}
use Rattle.cell_parts.specs.Parts.{CellParts}
use Rattle.heap_skeleton.specs.Skeletons.{SkeletonMap}

-- the parts are of as many cells as the skeleton has
pub record IsOver (heap : SkeletonMap) (parts : CellParts) : Type 0 where
  pub addresses : parts.cells ≡ length heap.addresses
  pub leads : parts.cells ≡ length heap.leads
