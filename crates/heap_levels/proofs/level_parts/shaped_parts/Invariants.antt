use Rattle.std.proofs.Common.{◌≡◌, length, map, take}
use Rattle.part_keys.specs.PartShapes.{AreShapedWithin, shaped_part}
use Rattle.heap_levels.proofs.level_parts.shaped_parts.Given as goal

-- those of the cells so far
abbrev pub invariant-loop-cell : goal.invariant-loop-cell
invariant-loop-cell l = (l.shaped.items ≡ map (shaped_part l.skeleton l.whole) (take l.cell-index l.cells)) × AreShapedWithin (length l.skeleton.leads) l.shaped.items
